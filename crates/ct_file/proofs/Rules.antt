-- Each rule of the grammar is read exactly.
use Rattle.std.proofs.Common.{◌≡◌, ℕ, Bool, true, false, List, [], ◌∷◌, ◌++◌, drop, Option, Some, None, refl, ap, subst, ◌∙◌, append_assoc, inl, inr, arith}
use Rattle.std.specs.Prelude.{◌&&◌, not, IfSome, flat_map}
use Rattle.std.specs.List.{AllByRecursion}
use Rattle.ic_base.proofs.Steps.{some_is}
use Rattle.cd_tokens.specs.Token.{Token}
use Rattle.cd_tokens.proofs.Fronts.{both, not_true}
use Rattle.cd_tokens.proofs.Starts.{started}
use Rattle.ct_file.specs.Codes.{opening_code, comma_code, dot_code, semicolon_code, equals_code}
use Rattle.ct_file.specs.declared.keyword.Keyword.TheVariants as words
use Rattle.ct_file.specs.Number.{WrittenNumber}
use Rattle.ct_file.specs.WrittenMove.{WrittenMove}
use Rattle.ct_file.specs.declared.tree.Outcome.{Outcome}
use Rattle.ct_file.specs.declared.tree.Outcome.TheVariants.{Replies, Rejects, Refused}
use Rattle.ct_file.specs.declared.tree.Action.{Action}
use Rattle.ct_file.specs.declared.tree.Action.TheVariants.{Call, Query, Upgrade, Reinstall}
use Rattle.ct_file.specs.declared.tree.Origin.TheVariants.{Made}
use Rattle.cd_tokens.specs.Front.{is_mark, starts}
use Rattle.cd_tokens.specs.Marks.{comma, semicolon, equals}
use Rattle.ct_file.specs.Words.{spelling, word, is_word}
use Rattle.ct_file.specs.Grammar.{maybe, text_token, number_token, arguments_tokens, outcome_tokens, expected_tokens, message_tokens, interface_tokens, change_tokens, action_tokens, by_tokens, move_tokens, principal_tokens, user_tokens, cycles_tokens, origin_tokens}
use Rattle.ct_file.specs.Fits.{IsName, SaysText, IsNumber, max_cycles, AreArguments, OneOrMore, FitsOutcome, FitsMessage, FitsChange, FitsAction, FitsMove, FitsUser, FitsCreation}
use Rattle.ct_file.specs.Read.{is_numeric, is_quoted, both_at, starts_not, maybe_arguments_at, maybe_code_at, maybe_text_at, rejects_of, reject_at, outcome_at, starts_outcome, alternative_at, outcomes_at, expected_at, message_of, message_at, interface_at, change_of, change_at, action_at, maybe_by_at, move_of, move_at, move_line_at, principal_at, maybe_principal_at, user_of, user_at, next_user_at, users_at, cycles_at, maybe_cycles_at, creation_of, creation_at}
use Rattle.ct_file.proofs.Words.{same_word}
use Rattle.ct_file.proofs.Exact.{Taken, Sound, Exact, Parts, anything, is_the_mark, is_the_word, chosen, token_sound, map_sound, map_again, map_exact, both_exact, after_exact, before_exact, maybe_exact, or_sound, nothing_sound, joined, some_exact}
use Rattle.ct_file.proofs.Leaves.{numeral_no_name, name_exact, text_exact, number_exact, method_exact, arguments_exact}

-- the line ends here: what ends all parts of a statement
abbrev pub line : List Token → Bool
line tokens = starts (is_mark semicolon_code) tokens

-- what holds before a semicolon
pub at_line : (P : List Token → Bool) (b : Bool) → ((rest : List Token) → P (semicolon ∷ rest) ≡ b) → (rest : List Token) → line rest ≡ true → P rest ≡ b
at_line P b law rest is = ap P (started semicolon_code rest is) ∙ law (drop 1 rest)

-- ---- outcomes

-- after an outcome: no arguments, no number and no text
abbrev pub calm : List Token → Bool
calm tokens = not (starts (is_mark opening_code) tokens) && (not (starts is_numeric tokens) && not (starts is_quoted tokens))

no_arguments : (rest : List Token) → calm rest ≡ true → starts (is_mark opening_code) rest ≡ false
no_arguments rest is = not_true (starts (is_mark opening_code) rest) (both (not (starts (is_mark opening_code) rest)) (not (starts is_numeric rest) && not (starts is_quoted rest)) is).0

no_number : (rest : List Token) → calm rest ≡ true → starts is_numeric rest ≡ false
no_number rest is = not_true (starts is_numeric rest) (both (not (starts is_numeric rest)) (not (starts is_quoted rest)) (both (not (starts (is_mark opening_code) rest)) (not (starts is_numeric rest) && not (starts is_quoted rest)) is).1).0

no_text : (rest : List Token) → calm rest ≡ true → starts is_quoted rest ≡ false
no_text rest is = not_true (starts is_quoted rest) (both (not (starts is_numeric rest)) (not (starts is_quoted rest)) (both (not (starts (is_mark opening_code) rest)) (not (starts is_numeric rest) && not (starts is_quoted rest)) is).1).1

pub maybe_arguments_exact : (clear : List Token → Bool) → ((rest : List Token) → clear rest ≡ true → starts (is_mark opening_code) rest ≡ false) → Exact (maybe arguments_tokens) (λ o. IfSome o AreArguments) clear maybe_arguments_at
maybe_arguments_exact clear frees = maybe_exact (is_mark opening_code) clear arguments_exact (λ x rest fits. refl) (λ rest is. (refl, frees rest is))

-- a number is no word
numeric : (number : WrittenNumber) (rest : List Token) → IsNumber 1 5 number → starts is_numeric (number_token number ++ rest) ≡ true
numeric number rest is = rw (numeral_no_name number.value number.written is.says) refl

maybe_code_exact : Exact (maybe number_token) (λ o. IfSome o (IsNumber 1 5)) (λ rest. not (starts is_numeric rest)) maybe_code_at
maybe_code_exact = maybe_exact is_numeric (λ rest. not (starts is_numeric rest)) (number_exact 1 5) numeric (λ rest is. (refl, not_true (starts is_numeric rest) is))

maybe_text_exact : Exact (maybe text_token) (λ o. IfSome o SaysText) calm maybe_text_at
maybe_text_exact = maybe_exact is_quoted calm text_exact (λ x rest fits. refl) (λ rest is. (refl, no_text rest is))

text_not_numeric : (text : Option (List ℕ)) (rest : List Token) → calm rest ≡ true → not (starts is_numeric (maybe text_token text ++ rest)) ≡ true
text_not_numeric None rest is = rw (no_number rest is) refl
text_not_numeric (Some written) rest is = refl

reject_exact : Exact (λ (x : Option WrittenNumber × Option (List ℕ)). maybe number_token x.0 ++ maybe text_token x.1) (λ x. IfSome x.0 (IsNumber 1 5) × IfSome x.1 SaysText) calm reject_at
unfolding reject_at
reject_exact = both_exact maybe_code_exact maybe_text_exact (λ text rest fits is. text_not_numeric text rest is)

outcome_sound : Sound outcome_tokens FitsOutcome outcome_at
unfolding outcome_at
outcome_sound =
    or_sound (is_word words.Replies) (map_sound (λ x. Replies x) outcome_tokens FitsOutcome (after_exact (is_the_word words.Replies) (maybe_arguments_exact calm no_arguments)) (λ x. refl) (λ x fits. fits))
    (or_sound (is_word words.Rejects) (map_sound rejects_of outcome_tokens FitsOutcome (after_exact (is_the_word words.Rejects) reject_exact) (λ x. refl) (λ x fits. fits))
    (or_sound (is_word words.Refused) (token_sound Refused outcome_tokens FitsOutcome (is_the_word words.Refused) refl tt) (nothing_sound outcome_tokens FitsOutcome)))

outcome_again : (outcome : Outcome) (rest : List Token) → FitsOutcome outcome → calm rest ≡ true → outcome_at (outcome_tokens outcome ++ rest) ≡ Some (outcome, rest)
unfolding outcome_at spelling
outcome_again (Replies arguments) rest fits is = map_again (λ x. Replies x) (after_exact (is_the_word words.Replies) (maybe_arguments_exact calm no_arguments)) arguments rest fits is
outcome_again (Rejects code text) rest fits is = map_again rejects_of (after_exact (is_the_word words.Rejects) reject_exact) (code, text) rest fits is
outcome_again Refused rest fits is = refl

pub outcome_exact : Exact outcome_tokens FitsOutcome calm outcome_at
outcome_exact = record { takes = outcome_sound.takes; again = outcome_again }

pub alternatives : Parts (starts_not (is_word words.Or)) (λ outcome. word words.Or ∷ outcome_tokens outcome) FitsOutcome calm alternative_at
unfolding spelling
alternatives = record { exact = after_exact (is_the_word words.Or) outcome_exact; some = λ x fits. omega arith; goes = λ x rest fits. refl; frees = λ x rest fits. refl }

-- what comes where outcomes end
no_or : (rest : List Token) → line rest ≡ true → (calm rest ≡ true) × (starts_not (is_word words.Or) rest ≡ true)
no_or rest is = (at_line calm true (λ more. refl) rest is, at_line (starts_not (is_word words.Or)) true (λ more. refl) rest is)

outcomes_exact : Exact (joined outcome_tokens (λ outcome. word words.Or ∷ outcome_tokens outcome)) (OneOrMore FitsOutcome) line outcomes_at
unfolding outcomes_at
outcomes_exact = some_exact line outcome_exact alternatives no_or

-- outcomes begin with one of three words
begun : (outcome : Outcome) (rest : List Token) → starts_outcome (outcome_tokens outcome ++ rest) ≡ true
unfolding spelling
begun (Replies arguments) rest = refl
begun (Rejects code text) rest = refl
begun Refused rest = refl

some_are : (tokens : List Token) (xs : List Outcome) (rest : List Token) → Taken (joined outcome_tokens (λ outcome. word words.Or ∷ outcome_tokens outcome)) (OneOrMore FitsOutcome) tokens (xs, rest) → Taken expected_tokens (AllByRecursion FitsOutcome) tokens (xs, rest)
some_are tokens [] rest taken = absurd taken.1
some_are tokens (x ∷ xs) rest taken = taken

expected_takes : (tokens : List Token) (z : List Outcome × List Token) → expected_at tokens ≡ Some z → Taken expected_tokens (AllByRecursion FitsOutcome) tokens z
unfolding expected_at
expected_takes tokens z e = elim (chosen (starts_outcome tokens) (outcomes_at tokens) (Some ([], tokens)) (Some z) e) [
  | inl h ↦ some_are tokens z.0 z.1 (outcomes_exact.takes tokens z h.1)
  | inr h ↦ subst (Taken expected_tokens (AllByRecursion FitsOutcome) tokens) (some_is {A = List Outcome × List Token} ([], tokens) z h.1) (refl, tt)
]

expected_again : (outcomes : List Outcome) (rest : List Token) → AllByRecursion FitsOutcome outcomes → line rest ≡ true → expected_at (expected_tokens outcomes ++ rest) ≡ Some (outcomes, rest)
unfolding expected_at
expected_again [] rest fits is = rw (at_line starts_outcome false (λ more. refl) rest is) refl
expected_again (outcome ∷ outcomes) rest fits is =
    let more : List Token = flat_map (λ other. word words.Or ∷ outcome_tokens other) outcomes ++ rest in
    let b : starts_outcome ((outcome_tokens outcome ++ flat_map (λ other. word words.Or ∷ outcome_tokens other) outcomes) ++ rest) ≡ true =
    ap starts_outcome (append_assoc (outcome_tokens outcome) (flat_map (λ other. word words.Or ∷ outcome_tokens other) outcomes) rest) ∙ begun outcome more in
    rw b (outcomes_exact.again (outcome ∷ outcomes) rest fits is)

pub expected_exact : Exact expected_tokens (AllByRecursion FitsOutcome) line expected_at
expected_exact = record { takes = expected_takes; again = expected_again }

-- what comes after other parts of a statement: no outcome begins with a mark, and none follows
pub not_expected : (test : Token → Bool) → (test (word words.Replies) ≡ false) × (test (word words.Rejects) ≡ false) × (test (word words.Refused) ≡ false) × (test semicolon ≡ false)
    → (outcomes : List Outcome) (rest : List Token) → line rest ≡ true → starts test (expected_tokens outcomes ++ rest) ≡ false
not_expected test none [] rest is = at_line (starts test) false (λ more. none.3) rest is
not_expected test none (Replies arguments ∷ outcomes) rest is = none.0
not_expected test none (Rejects code text ∷ outcomes) rest is = none.1
not_expected test none (Refused ∷ outcomes) rest is = none.2

-- ---- moves

message_exact : Exact message_tokens FitsMessage line message_at
unfolding message_at
message_exact = map_exact message_of (λ m. (m.canister, (m.method, (m.arguments, m.expected)))) message_tokens FitsMessage (both_exact name_exact (after_exact (is_the_mark dot_code) (both_exact method_exact (both_exact arguments_exact expected_exact (λ y rest fits is. refl)) (λ y rest fits is. refl))) (λ y rest fits is. refl)) (λ x. refl)
    (λ m. refl) (λ x fits. record { canister = fits.0; method = fits.1.0; arguments = fits.1.1.0; expected = fits.1.1.1 })
    (λ m fits. (fits.canister, (fits.method, (fits.arguments, fits.expected))))

pub interface_exact : Exact interface_tokens SaysText anything interface_at
interface_exact = after_exact (is_the_mark comma_code) text_exact

-- before what may be left out: its first token does not follow
pub may_lack : (test : Token → Bool) (rest : List Token) → starts_not test rest ≡ true → starts test rest ≡ false
may_lack test rest is = not_true (starts test rest) is

lacks : (b : Bool) → b ≡ false → not b ≡ true
lacks b is = rw is refl

-- arguments and outcomes begin with no comma
no_comma : (arguments : Option (List Token)) (outcomes : List Outcome) (rest : List Token) → line rest ≡ true → starts (is_mark comma_code) ((maybe arguments_tokens arguments ++ expected_tokens outcomes) ++ rest) ≡ false
no_comma None outcomes rest is = not_expected (is_mark comma_code) (refl, refl, refl, refl) outcomes rest is
no_comma (Some arguments) outcomes rest is = refl

-- arguments that may be left out, before outcomes
pub then_expected : Exact (λ (x : Option (List Token) × List Outcome). maybe arguments_tokens x.0 ++ expected_tokens x.1) (λ x. IfSome x.0 AreArguments × AllByRecursion FitsOutcome x.1) line (both_at maybe_arguments_at expected_at)
then_expected = both_exact (maybe_arguments_exact (starts_not (is_mark opening_code)) (may_lack (is_mark opening_code))) expected_exact (λ outcomes rest fits is. lacks (starts (is_mark opening_code) (expected_tokens outcomes ++ rest)) (not_expected (is_mark opening_code) (refl, refl, refl, refl) outcomes rest is))

change_exact : Exact change_tokens FitsChange line change_at
unfolding change_at
change_exact = map_exact change_of (λ c. (c.canister, (c.wasm, (c.interface, (c.arguments, c.expected))))) change_tokens FitsChange (both_exact name_exact (after_exact (is_the_mark equals_code) (both_exact text_exact (both_exact (maybe_exact (is_mark comma_code) (starts_not (is_mark comma_code)) interface_exact (λ x rest fits. refl) (λ rest is. (refl, may_lack (is_mark comma_code) rest is)))
    then_expected (λ y rest fits is. lacks (starts (is_mark comma_code) ((maybe arguments_tokens y.0 ++ expected_tokens y.1) ++ rest)) (no_comma y.0 y.1 rest is))) (λ y rest fits is. refl))) (λ y rest fits is. refl)) (λ x. refl)
    (λ c. refl) (λ x fits. record { canister = fits.0; wasm = fits.1.0; interface = fits.1.1.0; arguments = fits.1.1.1.0; expected = fits.1.1.1.1 })
    (λ c fits. (fits.canister, (fits.wasm, (fits.interface, (fits.arguments, fits.expected)))))

action_sound : Sound action_tokens FitsAction action_at
unfolding action_at
action_sound =
    or_sound (is_word words.Call) (map_sound (λ x. Call x) action_tokens FitsAction (after_exact (is_the_word words.Call) message_exact) (λ x. refl) (λ x fits. fits))
    (or_sound (is_word words.Query) (map_sound (λ x. Query x) action_tokens FitsAction (after_exact (is_the_word words.Query) message_exact) (λ x. refl) (λ x fits. fits))
    (or_sound (is_word words.Upgrade) (map_sound (λ x. Upgrade x) action_tokens FitsAction (after_exact (is_the_word words.Upgrade) change_exact) (λ x. refl) (λ x fits. fits))
    (or_sound (is_word words.Reinstall) (map_sound (λ x. Reinstall x) action_tokens FitsAction (after_exact (is_the_word words.Reinstall) change_exact) (λ x. refl) (λ x fits. fits)) (nothing_sound action_tokens FitsAction))))

action_again : (action : Action) (rest : List Token) → FitsAction action → line rest ≡ true → action_at (action_tokens action ++ rest) ≡ Some (action, rest)
unfolding action_at spelling
action_again (Call m) rest fits is = map_again (λ x. Call x) (after_exact (is_the_word words.Call) message_exact) m rest fits is
action_again (Query m) rest fits is = map_again (λ x. Query x) (after_exact (is_the_word words.Query) message_exact) m rest fits is
action_again (Upgrade c) rest fits is = map_again (λ x. Upgrade x) (after_exact (is_the_word words.Upgrade) change_exact) c rest fits is
action_again (Reinstall c) rest fits is = map_again (λ x. Reinstall x) (after_exact (is_the_word words.Reinstall) change_exact) c rest fits is

pub action_exact : Exact action_tokens FitsAction line action_at
action_exact = record { takes = action_sound.takes; again = action_again }

pub maybe_by_exact : Exact (maybe by_tokens) (λ by. IfSome by IsName) (starts_not (is_word words.As)) maybe_by_at
maybe_by_exact = maybe_exact (is_word words.As) (starts_not (is_word words.As)) (after_exact (is_the_word words.As) name_exact) (λ x rest fits. same_word words.As) (λ rest is. (refl, may_lack (is_word words.As) rest is))

-- no action begins with `as` or `canister`
pub no_canister : (action : Action) (rest : List Token) → starts (is_word words.Canister) (action_tokens action ++ rest) ≡ false
unfolding spelling
no_canister (Call m) rest = refl
no_canister (Query m) rest = refl
no_canister (Upgrade c) rest = refl
no_canister (Reinstall c) rest = refl

pub not_as : (action : Action) (rest : List Token) → starts_not (is_word words.As) (action_tokens action ++ rest) ≡ true
unfolding spelling
not_as (Call m) rest = refl
not_as (Query m) rest = refl
not_as (Upgrade c) rest = refl
not_as (Reinstall c) rest = refl

pub move_exact : Exact move_tokens FitsMove line move_at
move_exact = map_exact move_of (λ d. (d.by, d.action)) move_tokens FitsMove (both_exact maybe_by_exact action_exact (λ action rest fits is. not_as action rest)) (λ x. refl) (λ d. refl) (λ x fits. fits) (λ d fits. fits)

begins_so : (test : Token → Bool) → (test (word words.As) ≡ false) × (test (word words.Call) ≡ false) × (test (word words.Query) ≡ false) × (test (word words.Upgrade) ≡ false) × (test (word words.Reinstall) ≡ false)
    → (by : Option (List ℕ)) (action : Action) (rest : List Token) → starts test ((maybe by_tokens by ++ action_tokens action) ++ rest) ≡ false
begins_so test none (Some name) action rest = none.0
begins_so test none None (Call m) rest = none.1
begins_so test none None (Query m) rest = none.2
begins_so test none None (Upgrade c) rest = none.3
begins_so test none None (Reinstall c) rest = none.4

-- with which words a move begins
pub move_begins : (test : Token → Bool) → (test (word words.As) ≡ false) × (test (word words.Call) ≡ false) × (test (word words.Query) ≡ false) × (test (word words.Upgrade) ≡ false) × (test (word words.Reinstall) ≡ false)
    → (d : WrittenMove) (rest : List Token) → starts test (move_tokens d ++ rest) ≡ false
move_begins test none d rest = begins_so test none d.by d.action rest

pub move_line_exact : Exact (λ d. move_tokens d ++ semicolon ∷ []) FitsMove anything move_line_at
unfolding move_line_at
move_line_exact = before_exact (is_the_mark semicolon_code) move_exact (λ rest. refl)

-- ---- users

pub principal_exact : Exact principal_tokens SaysText anything principal_at
principal_exact = after_exact (is_the_word words.Principal) text_exact

maybe_principal_exact : Exact (maybe (λ written. equals ∷ principal_tokens written)) (λ o. IfSome o SaysText) (starts_not (is_mark equals_code)) maybe_principal_at
maybe_principal_exact = maybe_exact (is_mark equals_code) (starts_not (is_mark equals_code)) (after_exact (is_the_mark equals_code) principal_exact) (λ x rest fits. refl) (λ rest is. (refl, may_lack (is_mark equals_code) rest is))

user_exact : Exact user_tokens FitsUser (starts_not (is_mark equals_code)) user_at
unfolding user_at
user_exact = map_exact user_of (λ u. (u.name, u.principal)) user_tokens FitsUser (both_exact name_exact maybe_principal_exact (λ y rest fits is. refl)) (λ x. refl) (λ u. refl) (λ x fits. fits) (λ u fits. fits)

pub next_users : Parts (starts_not (is_mark comma_code)) (λ u. comma ∷ user_tokens u) FitsUser (starts_not (is_mark equals_code)) next_user_at
next_users = record { exact = after_exact (is_the_mark comma_code) user_exact; some = λ x fits. omega arith; goes = λ x rest fits. refl; frees = λ x rest fits. refl }

pub users_exact : Exact (joined user_tokens (λ u. comma ∷ user_tokens u)) (OneOrMore FitsUser) line users_at
unfolding users_at
users_exact = some_exact line user_exact next_users (λ rest is. (at_line (starts_not (is_mark equals_code)) true (λ more. refl) rest is, at_line (starts_not (is_mark comma_code)) true (λ more. refl) rest is))

-- ---- canisters

cycles_exact : Exact cycles_tokens (IsNumber 0 max_cycles) anything cycles_at
cycles_exact = after_exact (is_the_word words.With) (after_exact (is_the_word words.Cycles) (number_exact 0 max_cycles))

cycles_expected : Exact (λ (x : Option WrittenNumber × List Outcome). maybe cycles_tokens x.0 ++ expected_tokens x.1) (λ x. IfSome x.0 (IsNumber 0 max_cycles) × AllByRecursion FitsOutcome x.1) line (both_at maybe_cycles_at expected_at)
unfolding spelling
cycles_expected = both_exact (maybe_exact (is_word words.With) (starts_not (is_word words.With)) cycles_exact (λ x rest fits. refl) (λ rest is. (refl, may_lack (is_word words.With) rest is)))
    expected_exact (λ outcomes rest fits is. lacks (starts (is_word words.With) (expected_tokens outcomes ++ rest)) (not_expected (is_word words.With) (refl, refl, refl, refl) outcomes rest is))

-- cycles and outcomes begin with no parenthesis
no_parenthesis : (cycles : Option WrittenNumber) (outcomes : List Outcome) (rest : List Token) → line rest ≡ true → starts (is_mark opening_code) ((maybe cycles_tokens cycles ++ expected_tokens outcomes) ++ rest) ≡ false
no_parenthesis None outcomes rest is = not_expected (is_mark opening_code) (refl, refl, refl, refl) outcomes rest is
no_parenthesis (Some number) outcomes rest is = refl

pub creation_exact : Exact (λ c. origin_tokens (Made c)) FitsCreation line creation_at
unfolding creation_at
creation_exact = map_exact creation_of (λ c. (c.wasm, (c.interface, (c.arguments, (c.cycles, c.expected))))) (λ c. origin_tokens (Made c)) FitsCreation (both_exact text_exact (both_exact interface_exact (both_exact (maybe_arguments_exact (starts_not (is_mark opening_code)) (may_lack (is_mark opening_code))) cycles_expected
    (λ y rest fits is. lacks (starts (is_mark opening_code) ((maybe cycles_tokens y.0 ++ expected_tokens y.1) ++ rest)) (no_parenthesis y.0 y.1 rest is))) (λ y rest fits is. refl)) (λ y rest fits is. refl)) (λ x. refl)
    (λ c. refl) (λ x fits. record { wasm = fits.0; interface = fits.1.0; arguments = fits.1.1.0; cycles = fits.1.1.1.0; expected = fits.1.1.1.1 })
    (λ c fits. (fits.wasm, (fits.interface, (fits.arguments, (fits.cycles, fits.expected)))))
