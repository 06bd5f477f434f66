-- Statements, tests and files are read exactly.
use Rattle.std.proofs.Common.{◌≡◌, ℕ, ◌<◌, Bool, true, false, List, [], ◌∷◌, ◌++◌, length, Option, Some, None, refl, sym, ap, subst, ◌∙◌, append_assoc, inl, inr, arith}
use Rattle.std.specs.Prelude.{◌≢◌, flat_map}
use Rattle.std.specs.List.{AllByRecursion, join_by}
use Rattle.std.proofs.lemmas.List.{length-append}
use Rattle.ic_base.specs.Reader.{◌>>=◌}
use Rattle.ic_base.proofs.Steps.{bind_some, some_is}
use Rattle.cd_tokens.specs.Token.{Token, run}
use Rattle.ct_file.specs.Codes.{semicolon_code, equals_code, open_brace_code, close_brace_code}
use Rattle.ct_file.specs.declared.keyword.Keyword.TheVariants as words
use Rattle.ct_file.specs.WrittenMove.{WrittenMove}
use Rattle.ct_file.specs.declared.tree.Origin.{Origin}
use Rattle.ct_file.specs.declared.tree.Origin.TheVariants.{Made, Principal, Named}
use Rattle.ct_file.specs.declared.tree.StatementKind.{StatementKind}
use Rattle.ct_file.specs.declared.tree.StatementKind.TheVariants as kinds
use Rattle.ct_file.specs.declared.tree.Step.{Step}
use Rattle.ct_file.specs.declared.tree.Step.TheVariants as steps
use Rattle.ct_file.specs.declared.tree.Test.{Test}
use Rattle.ct_file.specs.declared.tree.File.{File}
use Rattle.cd_tokens.specs.Front.{is_mark, starts}
use Rattle.cd_tokens.specs.Marks.{comma, semicolon, equals}
use Rattle.ct_file.specs.Words.{spelling, word, is_word}
use Rattle.ct_file.specs.Grammar.{maybe, by_tokens, action_tokens, move_tokens, principal_tokens, interface_tokens, user_tokens, origin_tokens, statement_tokens, interleave_tokens, step_tokens, test_tokens, file_tokens}
use Rattle.ct_file.specs.Fits.{IsName, SaysText, IsNumber, max_time, OneOrMore, FitsMove, FitsUser, FitsOrigin, FitsStatement, FitsStep, FitsTest, FitsFile}
use Rattle.ct_file.specs.Read.{is_quoted, are_none, map_at, both_at, after_at, or_at, name_at, number_at, maybe_by_at, principal_at, interface_at, move_of, move_by_at, action_at, users_at, creation_at, principal_origin, named_origin, principal_origin_at, named_origin_at, origin_at, canister_by, canister_at, canister_or_move_by_at, canister_or_move_at, kind_at, statement_at, move_line_at, moves_at, interleave_at, step_at, steps_at, test_of, test_at, tests_at, ends_preamble, preamble_at, file_of, file_at}
use Rattle.ct_file.proofs.Words.{not_word, same_word}
use Rattle.ct_file.proofs.Exact.{Taken, Sound, Exact, Parts, anything, is_the_mark, is_the_word, chosen, map_sound, map_again, map_exact, respelled, both_exact, after_exact, before_exact, or_sound, many_takes, many_exact, joined, some_exact}
use Rattle.ct_file.proofs.Leaves.{name_exact, text_exact, number_exact}
use Rattle.ct_file.proofs.Rules.{line, principal_exact, interface_exact, creation_exact, action_exact, maybe_by_exact, users_exact, not_as, no_canister, move_begins, move_line_exact}

-- ---- where a canister comes from

principal_origin_exact : Exact (λ (x : List ℕ × List ℕ). principal_tokens x.0 ++ interface_tokens x.1) (λ x. SaysText x.0 × SaysText x.1) anything (both_at principal_at interface_at)
principal_origin_exact = both_exact principal_exact interface_exact (λ y rest fits is. refl)

named_origin_exact : Exact (λ (x : List ℕ × List ℕ). run x.0 ∷ interface_tokens x.1) (λ x. IsName x.0 × SaysText x.1) anything (both_at name_at interface_at)
named_origin_exact = both_exact name_exact interface_exact (λ y rest fits is. refl)

-- a name that is not the word
no_keyword : (id : List ℕ) (more tokens : List Token) → starts (is_word words.Principal) tokens ≡ false → tokens ≡ run id ∷ more → id ≢ spelling words.Principal
no_keyword id more tokens none e same =
    let f : is_word words.Principal (word words.Principal) ≡ false = subst (λ n. is_word words.Principal (run n) ≡ false) same (subst (λ ts. starts (is_word words.Principal) ts ≡ false) e none) in
    let g : true ≡ false = sym (same_word words.Principal) ∙ f in absurd cc

named_origin_takes : (tokens : List Token) (z : Origin × List Token) → starts (is_word words.Principal) tokens ≡ false → named_origin_at tokens ≡ Some z → Taken origin_tokens FitsOrigin tokens z
named_origin_takes tokens z none e =
    let a = bind_some (both_at name_at interface_at tokens) (λ x. Some (named_origin x.0, x.1)) z e in
    let l = named_origin_exact.takes tokens a.0 a.1 in
    subst (Taken origin_tokens FitsOrigin tokens) (some_is {A = Origin × List Token} (named_origin a.0.0, a.0.1) z a.2) (l.0, (l.1.0, no_keyword a.0.0.0 (interface_tokens a.0.0.1 ++ a.0.1) tokens none l.0, l.1.1))

origin_takes : (tokens : List Token) (z : Origin × List Token) → origin_at tokens ≡ Some z → Taken origin_tokens FitsOrigin tokens z
unfolding origin_at
origin_takes tokens z e = elim (chosen (starts is_quoted tokens) (map_at (λ x. Made x) creation_at tokens) (or_at (is_word words.Principal) principal_origin_at named_origin_at tokens) (Some z) e) [
  | inl h ↦ (map_sound (λ x. Made x) origin_tokens FitsOrigin creation_exact (λ x. refl) (λ x fits. fits)).takes tokens z h.1
  | inr h ↦ elim (chosen (starts (is_word words.Principal) tokens) (principal_origin_at tokens) (named_origin_at tokens) (Some z) h.1) [
    | inl g ↦ (map_sound principal_origin origin_tokens FitsOrigin principal_origin_exact (λ x. refl) (λ x fits. fits)).takes tokens z g.1
    | inr g ↦ named_origin_takes tokens z g.0 g.1
  ]
]

origin_again : (origin : Origin) (rest : List Token) → FitsOrigin origin → line rest ≡ true → origin_at (origin_tokens origin ++ rest) ≡ Some (origin, rest)
unfolding origin_at spelling
origin_again (Made c) rest fits is = map_again (λ x. Made x) creation_exact c rest fits is
origin_again (Principal id interface) rest fits is = map_again principal_origin principal_origin_exact (id, interface) rest fits refl
origin_again (Named id interface) rest fits is = rw (not_word words.Principal id fits.1) (map_again named_origin named_origin_exact (id, interface) rest (fits.0, fits.2) refl)

origin_exact : Exact origin_tokens FitsOrigin line origin_at
origin_exact = record { takes = origin_takes; again = origin_again }

canister_exact : Exact (λ (x : List ℕ × Origin). run x.0 ∷ equals ∷ origin_tokens x.1) (λ x. IsName x.0 × FitsOrigin x.1) line canister_at
unfolding canister_at
canister_exact = both_exact name_exact (after_exact (is_the_mark equals_code) origin_exact) (λ y rest fits is. refl)

-- ---- statements

canister_or_move_takes : (tokens : List Token) (z : StatementKind × List Token) → canister_or_move_at tokens ≡ Some z → Taken statement_tokens FitsStatement tokens z
unfolding canister_or_move_at
canister_or_move_takes tokens z e =
    let a = bind_some (maybe_by_at tokens) (λ by. canister_or_move_by_at by.0 by.1) z e in
    let l = maybe_by_exact.takes tokens a.0 a.1 in
    let by : Option (List ℕ) = a.0.0 in
    elim (chosen (starts (is_word words.Canister) a.0.1) (map_at (canister_by by) (after_at (is_word words.Canister) canister_at) a.0.1) (map_at (λ x. kinds.Move x) (move_by_at by) a.0.1) (Some z) a.2) [
      | inl h ↦
          let b = bind_some (after_at (is_word words.Canister) canister_at a.0.1) (λ x. Some (canister_by by x.0, x.1)) z h.1 in
          let m = (after_exact (is_the_word words.Canister) canister_exact).takes a.0.1 b.0 b.1 in
          subst (Taken statement_tokens FitsStatement tokens) (some_is {A = StatementKind × List Token} (canister_by by b.0.0, b.0.1) z b.2)
          (l.0 ∙ ap (λ ts. maybe by_tokens by ++ ts) m.0 ∙ sym (append_assoc (maybe by_tokens by) (word words.Canister ∷ run b.0.0.0 ∷ equals ∷ origin_tokens b.0.0.1) b.0.1), (l.1, m.1.0, m.1.1))
      | inr h ↦
          let b = bind_some (move_by_at by a.0.1) (λ x. Some (kinds.Move x.0, x.1)) z h.1 in
          let c = bind_some (action_at a.0.1) (λ x. Some (move_of (by, x.0), x.1)) b.0 b.1 in
          let m = action_exact.takes a.0.1 c.0 c.1 in
          let same : (move_of (by, c.0.0), c.0.1) ≡ b.0 = some_is {A = WrittenMove × List Token} (move_of (by, c.0.0), c.0.1) b.0 c.2 in
          let is : (kinds.Move (move_of (by, c.0.0)), c.0.1) ≡ z = ap (λ (x : WrittenMove × List Token). (kinds.Move x.0, x.1)) same ∙ some_is {A = StatementKind × List Token} (kinds.Move b.0.0, b.0.1) z b.2 in
          subst (Taken statement_tokens FitsStatement tokens) is (l.0 ∙ ap (λ ts. maybe by_tokens by ++ ts) m.0 ∙ sym (append_assoc (maybe by_tokens by) (action_tokens c.0.0) c.0.1), (l.1, m.1))
    ]

canister_or_move_sound : Sound statement_tokens FitsStatement canister_or_move_at
canister_or_move_sound = record { takes = canister_or_move_takes }

canister_again : (by : Option (List ℕ)) (name : List ℕ) (origin : Origin) (rest : List Token) → FitsStatement (kinds.Canister by name origin) → line rest ≡ true → canister_or_move_at (statement_tokens (kinds.Canister by name origin) ++ rest) ≡ Some (kinds.Canister by name origin, rest)
unfolding canister_or_move_at spelling
canister_again by name origin rest fits is =
    let more : List Token = word words.Canister ∷ run name ∷ equals ∷ origin_tokens origin in
    let s : canister_or_move_by_at by (more ++ rest) ≡ Some (kinds.Canister by name origin, rest) = map_again (canister_by by) (after_exact (is_the_word words.Canister) canister_exact) (name, origin) rest (fits.1, fits.2) is in
    ap canister_or_move_at (append_assoc (maybe by_tokens by) more rest) ∙ rw (maybe_by_exact.again by (more ++ rest) fits.0 refl) s

move_again : (d : WrittenMove) (rest : List Token) → FitsMove d → line rest ≡ true → canister_or_move_at (move_tokens d ++ rest) ≡ Some (kinds.Move d, rest)
unfolding canister_or_move_at
move_again d rest fits is =
    let s : canister_or_move_by_at d.by (action_tokens d.action ++ rest) ≡ Some (kinds.Move d, rest) = rw (no_canister d.action rest, action_exact.again d.action rest fits.1 is) refl in
    ap canister_or_move_at (append_assoc (maybe by_tokens d.by) (action_tokens d.action) rest) ∙ rw (maybe_by_exact.again d.by (action_tokens d.action ++ rest) fits.0 (not_as d.action rest)) s

join_is : {A : Type 0} (spelled : A → List Token) (t : Token) (xs : List A) → joined spelled (λ x. t ∷ spelled x) xs ≡ join_by spelled (t ∷ []) xs
join_is spelled t [] = refl
join_is spelled t (x ∷ xs) = refl

users_after : Exact (λ users. word words.User ∷ join_by user_tokens (comma ∷ []) users) (OneOrMore FitsUser) line (after_at (is_word words.User) users_at)
users_after = after_exact (is_the_word words.User) (respelled (join_by user_tokens (comma ∷ [])) users_exact (join_is user_tokens comma))

time_after : Exact (λ number. statement_tokens (kinds.Time number)) (IsNumber 0 max_time) anything (after_at (is_word words.Time) (number_at 0 max_time))
time_after = after_exact (is_the_word words.Time) (number_exact 0 max_time)

kind_sound : Sound statement_tokens FitsStatement kind_at
unfolding kind_at
kind_sound =
    or_sound (is_word words.User) (map_sound (λ x. kinds.Users x) statement_tokens FitsStatement users_after (λ x. refl) (λ x fits. fits))
    (or_sound (is_word words.Time) (map_sound (λ x. kinds.Time x) statement_tokens FitsStatement time_after (λ x. refl) (λ x fits. fits)) canister_or_move_sound)

-- with which words a statement begins
canister_begins : (test : Token → Bool) → test (word words.As) ≡ false → test (word words.Canister) ≡ false → (by : Option (List ℕ)) (more rest : List Token) → starts test ((maybe by_tokens by ++ (word words.Canister ∷ more)) ++ rest) ≡ false
canister_begins test not_by not_it None more rest = not_it
canister_begins test not_by not_it (Some name) more rest = not_by

pub record Begins (test : Token → Bool) : Type 0 where
  pub user : test (word words.User) ≡ false
  pub time : test (word words.Time) ≡ false
  pub canister : test (word words.Canister) ≡ false
  pub as_word : test (word words.As) ≡ false
  pub call : test (word words.Call) ≡ false
  pub query : test (word words.Query) ≡ false
  pub upgrade : test (word words.Upgrade) ≡ false
  pub reinstall : test (word words.Reinstall) ≡ false

statement_begins : (test : Token → Bool) → Begins test → (s : StatementKind) (rest : List Token) → starts test (statement_tokens s ++ rest) ≡ false
statement_begins test none (kinds.Users users) rest = none.user
statement_begins test none (kinds.Time number) rest = none.time
statement_begins test none (kinds.Canister by name origin) rest = canister_begins test none.as_word none.canister by (run name ∷ equals ∷ origin_tokens origin) rest
statement_begins test none (kinds.Move d) rest = move_begins test (none.as_word, none.call, none.query, none.upgrade, none.reinstall) d rest

kind_again : (s : StatementKind) (rest : List Token) → FitsStatement s → line rest ≡ true → kind_at (statement_tokens s ++ rest) ≡ Some (s, rest)
unfolding kind_at spelling
kind_again (kinds.Users users) rest fits is = map_again (λ x. kinds.Users x) users_after users rest fits is
kind_again (kinds.Time number) rest fits is = map_again (λ x. kinds.Time x) time_after number rest fits refl
kind_again (kinds.Canister by name origin) rest fits is =
    rw (canister_begins (is_word words.User) refl refl by (run name ∷ equals ∷ origin_tokens origin) rest, canister_begins (is_word words.Time) refl refl by (run name ∷ equals ∷ origin_tokens origin) rest) (canister_again by name origin rest fits is)
kind_again (kinds.Move d) rest fits is =
    rw (move_begins (is_word words.User) (refl, refl, refl, refl, refl) d rest, move_begins (is_word words.Time) (refl, refl, refl, refl, refl) d rest) (move_again d rest fits is)

kind_exact : Exact statement_tokens FitsStatement line kind_at
kind_exact = record { takes = kind_sound.takes; again = kind_again }

pub statement_exact : Exact (λ s. statement_tokens s ++ semicolon ∷ []) FitsStatement anything statement_at
unfolding statement_at
statement_exact = before_exact (is_the_mark semicolon_code) kind_exact (λ rest. refl)

-- the same with its semicolon
begins_line : (test : Token → Bool) → Begins test → (s : StatementKind) (rest : List Token) → starts test ((statement_tokens s ++ semicolon ∷ []) ++ rest) ≡ false
begins_line test none s rest = ap (starts test) (append_assoc (statement_tokens s) (semicolon ∷ []) rest) ∙ statement_begins test none s (semicolon ∷ rest)

-- ---- tests

some_line : (front : List Token) → 0 < length (front ++ semicolon ∷ [])
some_line front = let n = length-append front (semicolon ∷ []) in omega (arith, n)

pub moves : Parts (starts (is_mark close_brace_code)) (λ d. move_tokens d ++ semicolon ∷ []) FitsMove anything move_line_at
moves = record {
  exact = move_line_exact;
  some = λ d fits. some_line (move_tokens d);
  goes = λ d rest fits. ap (starts (is_mark close_brace_code)) (append_assoc (move_tokens d) (semicolon ∷ []) rest) ∙ move_begins (is_mark close_brace_code) (refl, refl, refl, refl, refl) d (semicolon ∷ rest);
  frees = λ d rest fits. refl;
}

all_moves : (ds : List WrittenMove) → joined (λ d. move_tokens d ++ semicolon ∷ []) (λ d. move_tokens d ++ semicolon ∷ []) ds ≡ flat_map (λ d. move_tokens d ++ semicolon ∷ []) ds
all_moves [] = refl
all_moves (d ∷ ds) = refl

moves_exact : Exact (λ ds. flat_map (λ d. move_tokens d ++ semicolon ∷ []) ds) (OneOrMore FitsMove) (starts (is_mark close_brace_code)) moves_at
unfolding moves_at
moves_exact = respelled (λ ds. flat_map (λ d. move_tokens d ++ semicolon ∷ []) ds) (some_exact (starts (is_mark close_brace_code)) move_line_exact moves (λ rest is. (refl, is))) all_moves

interleave_exact : Exact interleave_tokens (OneOrMore FitsMove) anything interleave_at
unfolding interleave_at
interleave_exact = after_exact (is_the_word words.Interleave) (after_exact (is_the_mark open_brace_code) (before_exact (is_the_mark close_brace_code) moves_exact (λ rest. refl)))

step_again : (s : Step) (rest : List Token) → FitsStep s → anything rest ≡ true → step_at (step_tokens s ++ rest) ≡ Some (s, rest)
unfolding step_at spelling
step_again (steps.Statement s) rest fits is =
    rw (begins_line (is_word words.Interleave) (record { user = refl; time = refl; canister = refl; as_word = refl; call = refl; query = refl; upgrade = refl; reinstall = refl }) s rest) (map_again (λ x. steps.Statement x) statement_exact s rest fits refl)
step_again (steps.Interleave ds) rest fits is = map_again (λ x. steps.Interleave x) interleave_exact ds rest fits refl

step_sound : Sound step_tokens FitsStep step_at
unfolding step_at
step_sound = or_sound (is_word words.Interleave) (map_sound (λ x. steps.Interleave x) step_tokens FitsStep interleave_exact (λ x. refl) (λ x fits. fits)) (map_sound (λ x. steps.Statement x) step_tokens FitsStep statement_exact (λ x. refl) (λ x fits. fits))

no_brace : Begins (is_mark close_brace_code)
no_brace = record { user = refl; time = refl; canister = refl; as_word = refl; call = refl; query = refl; upgrade = refl; reinstall = refl }

some_step : (s : Step) → FitsStep s → 0 < length (step_tokens s)
some_step (steps.Statement s) fits = some_line (statement_tokens s)
some_step (steps.Interleave ds) fits = omega arith

step_goes : (s : Step) (rest : List Token) → FitsStep s → starts (is_mark close_brace_code) (step_tokens s ++ rest) ≡ false
step_goes (steps.Statement s) rest fits = begins_line (is_mark close_brace_code) no_brace s rest
step_goes (steps.Interleave ds) rest fits = refl

pub all_steps : Parts (starts (is_mark close_brace_code)) step_tokens FitsStep anything step_at
all_steps = record { exact = record { takes = step_sound.takes; again = step_again }; some = some_step; goes = step_goes; frees = λ s rest fits. refl }

steps_exact : Exact (λ ss. flat_map step_tokens ss) (λ ss. AllByRecursion FitsStep ss) (starts (is_mark close_brace_code)) steps_at
unfolding steps_at
steps_exact = many_exact (starts (is_mark close_brace_code)) all_steps (λ rest is. (refl, is))

test_exact : Exact test_tokens FitsTest anything test_at
unfolding test_at
test_exact = map_exact test_of (λ t. (t.name, t.steps)) test_tokens FitsTest (after_exact (is_the_word words.Test) (both_exact text_exact (after_exact (is_the_mark open_brace_code) (before_exact (is_the_mark close_brace_code) steps_exact (λ rest. refl))) (λ y rest fits is. refl))) (λ x. refl) (λ t. refl) (λ x fits. fits)
    (λ t fits. fits)

-- ---- files

pub all_tests : Parts are_none test_tokens FitsTest anything test_at
all_tests = record { exact = test_exact; some = λ t fits. omega arith; goes = λ t rest fits. refl; frees = λ t rest fits. refl }

tests_exact : Exact (λ ts. flat_map test_tokens ts) (λ ts. AllByRecursion FitsTest ts) are_none tests_at
unfolding tests_at
tests_exact = many_exact are_none all_tests (λ rest is. (refl, is))

not_none : (front rest : List Token) → 0 < length front → are_none (front ++ rest) ≡ false
not_none [] rest some = absurd (omega (arith, some))
not_none (t ∷ front) rest some = refl

preamble_goes : (s : StatementKind) (rest : List Token) → FitsStatement s → ends_preamble ((statement_tokens s ++ semicolon ∷ []) ++ rest) ≡ false
unfolding spelling
preamble_goes s rest fits = rw (not_none (statement_tokens s ++ semicolon ∷ []) rest (some_line (statement_tokens s)), begins_line (is_word words.Test) (record { user = refl; time = refl; canister = refl; as_word = refl; call = refl; query = refl; upgrade = refl; reinstall = refl }) s rest) refl

pub all_statements : Parts ends_preamble (λ s. statement_tokens s ++ semicolon ∷ []) FitsStatement anything statement_at
all_statements = record { exact = statement_exact; some = λ s fits. some_line (statement_tokens s); goes = preamble_goes; frees = λ s rest fits. refl }

preamble_exact : Exact (λ ss. flat_map (λ s. statement_tokens s ++ semicolon ∷ []) ss) (λ ss. AllByRecursion FitsStatement ss) ends_preamble preamble_at
unfolding preamble_at
preamble_exact = many_exact ends_preamble all_statements (λ rest is. (refl, is))

tests_end : (ts : List Test) (rest : List Token) → AllByRecursion FitsTest ts → are_none rest ≡ true → ends_preamble (flat_map test_tokens ts ++ rest) ≡ true
unfolding spelling
tests_end [] rest fits none = rw none refl
tests_end (t ∷ ts) rest fits none = refl

pub file_exact : Exact file_tokens FitsFile are_none file_at
unfolding file_at
file_exact = map_exact file_of (λ f. (f.preamble, f.tests)) file_tokens FitsFile (both_exact preamble_exact tests_exact tests_end) (λ x. refl) (λ f. refl) (λ x fits. fits) (λ f fits. fits)

-- a file takes all tokens
pub file_ends : (tokens : List Token) (z : File × List Token) → file_at tokens ≡ Some z → are_none z.1 ≡ true
unfolding file_at tests_at
file_ends tokens z e =
    let a = bind_some (both_at preamble_at tests_at tokens) (λ x. Some (file_of x.0, x.1)) z e in
    let b = bind_some (preamble_at tokens) (λ x. tests_at x.1 >>= λ y. Some ((x.0, y.0), y.1)) a.0 a.1 in
    let c = bind_some (tests_at b.0.1) (λ y. Some ((b.0.0, y.0), y.1)) a.0 b.2 in
    let l = many_takes all_tests b.0.1 c.0 c.1 in
    let same : c.0.1 ≡ z.1 = ap (λ (x : (List StatementKind × List Test) × List Token). x.1) (some_is {A = (List StatementKind × List Test) × List Token} ((b.0.0, c.0.0), c.0.1) a.0 c.2) ∙ ap (λ (x : File × List Token). x.1) (some_is {A = File × List Token} (file_of a.0.0, a.0.1) z a.2) in
    subst (λ ts. are_none ts ≡ true) same l.2
