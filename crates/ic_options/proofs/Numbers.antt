-- What a parse gives for an option that takes a number.
use Rattle.std.proofs.Common.{◌≡◌, ◌∙◌, ◌<◌, ◌≤◌, ◌^◌, ◌+◌, ◌&&◌, ap, subst, sym, refl, arith, ℕ, true, false, zero, suc, List, [], ◌∷◌, length, map, Option, Some, None, Result, Ok, Err, inl, inr, option_map, true≢false}
use Rattle.std.specs.Prelude.{Bool, ◌==◌, if◌then◌else◌, codes, slice_get, unwrap_or, IfSome}
use Rattle.std.proofs.lemmas.Bool.{eqb-true}
use Rattle.std.specs.Borrow.{Bor}
use Rattle.std.specs.List.{All, slice_index_or, list_all}
use Rattle.std.specs.Str.{bytes_eq}
use Rattle.std.specs.Str.Parse.{ParsesUnsigned, digits_value, without_leading_plus}
use Rattle.std.proofs.lemmas.Slice.Eq.{bytes_eq-Decides}
use Rattle.std.proofs.lemmas.List.Elements.{All-get_or}
use Rattle.clap.specs.Facts.{Entry, EntryPasses, PassesArg, HasReading, args_of, groups_of, parser_of, parser_of_value, IsParsed}
use Rattle.clap.specs.Matches.{ReadsOne, found_of, has_subcommand, matched_of, one_text}
use Rattle.clap.specs.Built.{IsParsedFrom, IsAuto}
use Rattle.clap.specs.Simple.{App, app_of}
use Rattle.clap.specs.Values.{Accepts, IsUnsignedIn, read_as, reading_of}
use Rattle.clap.specs.Walk.{Rule, Text, is_simple_arg, rows_of, rule_of}
use Rattle.clap.specs.declared.builder.arg.Arg.{Arg}
use Rattle.clap.specs.declared.builder.command.Command.{Command}
use Rattle.clap.specs.declared.builder.command.Command.TheViews.{out-Command}
use Rattle.clap.specs.declared.builder.value_parser.ValueParser.{ValueParser}
use Rattle.clap.specs.declared.builder.value_parser.ValueParser.TheVariants.{Unsigned}
use Rattle.clap.specs.declared.builder.value_parser.Reading.{Reading}
use Rattle.clap.specs.declared.builder.value_parser.Reading.TheVariants.{AsWritten}
use Rattle.clap.specs.declared.parser.matches.ArgMatches.{ArgMatches}
use Rattle.clap.specs.declared.parser.matches.Found.{Found}
use Rattle.clap.specs.declared.parser.matches.MatchedArg.{MatchedArg}
use Rattle.clap.proofs.CallerLemmas.{entry_by_id, same_rules_by_id}
use Rattle.clap.proofs.SimpleLemmas.{is_nil}
use Rattle.clap.proofs.TakesLemmas.{each_rule}
use Rattle.clap.proofs.WalkLemmas.{both, one_text-rows}
use Rattle.clap.specs.Faults.{is_simple_and_free}
use Rattle.ic_options.proofs.Exact.{IsPlainLeaf}
use Rattle.clap.proofs.OnLiterals.{clap_on_literals}
use Rattle.ic_options.specs.Command.{command, workers_rule, limit_rule, rounds_rule, generate_rule, price_rule}
use Rattle.ic_options.specs.Options.{number_in}

rule_at : (xs : List Arg) (k : ℕ) (d : Arg) → slice_index_or (map rule_of xs) k (rule_of d) ≡ rule_of (slice_index_or xs k d)
rule_at [] k d = refl
rule_at (x ∷ xs) zero d = refl
rule_at (x ∷ xs) (suc k) d = rule_at xs k d

rule_count : (xs : List Arg) → length (map rule_of xs) ≡ length xs
rule_count [] = refl
rule_count (x ∷ xs) = ap suc (rule_count xs)

-- an option of a command that takes a number: its place, and what its rule says
pub record IsNumber (a : App) (r : Rule) (k low high : ℕ) : Type 0 where
  pub place : k < length a.top.rules
  pub rule : (e : Rule) → slice_index_or a.top.rules k e ≡ r
  pub parser : r.parser ≡ Some (Unsigned low high)
  pub named : bytes_eq r.id [] ≡ false
  pub not_help : bytes_eq r.id (codes "help") ≡ false
  pub not_version : bytes_eq r.id (codes "version") ≡ false
  pub unique : (j : ℕ) (e : Rule) → j < length a.top.rules → bytes_eq (slice_index_or a.top.rules j e).id r.id ≡ true → j ≡ k

differ : (a b : Text) → bytes_eq a b ≡ false → a ≡ b → ⊥
differ a b e same = true≢false (sym ((bytes_eq-Decides a b).1 same) ∙ e)

no_groups : (a : Arg) → is_simple_arg a ≡ true → a.groups.items ≡ []
no_groups a e = is_nil _ (both _ _ (both _ _ (both _ _ e).1).1).0

-- a built argument of this id has the parser of the rule
module _ (a : App) (simple : list_all (λ (r : Rule). r.is_simple) a.top.rules ≡ true) (old : Command) (m : ArgMatches) (p : IsParsedFrom old m) (app : app_of old ≡ a) (r : Rule) (k low high : ℕ) (n : IsNumber a r k low high) where
  rules_are : map rule_of (args_of old) ≡ a.top.rules
  rules_are = ap (λ (a : App). a.top.rules) app

  count_is : length (args_of old) ≡ length a.top.rules
  count_is = sym (rule_count (args_of old)) ∙ ap length rules_are

  is_rule : (d : Arg) → rule_of (slice_index_or (args_of old) k d) ≡ r
  is_rule d = sym (rule_at (args_of old) k d) ∙ (ap (λ (l : List Rule). slice_index_or l k (rule_of d)) rules_are ∙ n.rule (rule_of d))

  is_id : (d : Arg) → (slice_index_or (args_of old) k d).id.now ≡ r.id
  is_id d = ap (λ (x : Rule). x.id) (is_rule d)

  one_place : (d : Arg) (j : ℕ) (e : Arg) → j < length (args_of old)
      → bytes_eq (slice_index_or (args_of old) j e).id.now (slice_index_or (args_of old) k d).id.now ≡ true → j ≡ k
  one_place d j e lt same =
      let at : slice_index_or a.top.rules j (rule_of e) ≡ rule_of (slice_index_or (args_of old) j e) =
      ap (λ (l : List Rule). slice_index_or l j (rule_of e)) (sym rules_are) ∙ rule_at (args_of old) j e in
      n.unique j (rule_of e) (subst (λ l. j < l) count_is lt)
      (ap (λ (x : Rule). bytes_eq x.id r.id) at ∙ (ap (λ w. bytes_eq (slice_index_or (args_of old) j e).id.now w) (sym (is_id d)) ∙ same))

  not_auto : (d : Arg) → IsAuto (slice_index_or (args_of old) k d) → ⊥
  not_auto d (inl h) = differ r.id _ n.not_help (sym (is_id d) ∙ h)
  not_auto d (inr h) = differ r.id _ n.not_version (sym (is_id d) ∙ h)

  has_parser : (j : ℕ) (x : Arg) → j < length (args_of p.built) → slice_index_or (args_of p.built) j x ≡ x → bytes_eq x.id.now r.id ≡ true
      → parser_of x ≡ Unsigned low high
  has_parser j x lt at same =
      let s = same_rules_by_id old m p k x (subst (λ l. k < l) (sym count_is) n.place) (one_place x) (not_auto x) j x lt at
      (ap (bytes_eq x.id.now) (is_id x) ∙ same) in
      ap parser_of_value (s.parser (Unsigned low high) (ap (λ (y : Rule). y.parser) (is_rule x) ∙ n.parser))

  accepted : (t : Text) → PassesArg p.built r.id t → IsUnsignedIn low high t
  accepted t pass = subst (λ (q : ValueParser). Accepts pass.1.ignore_case q t) (has_parser pass.0 pass.1 pass.2 pass.3 pass.4.0) pass.4.1

  as_written : (how : Reading) → HasReading p.built r.id how → how ≡ AsWritten
  as_written how any = sym any.4.1 ∙ ap reading_of (has_parser any.0 any.1 any.2 any.3 any.4.0)

  first_accepted : (how : Reading) (vs : List (Bor Text)) (t : Text) → how ≡ AsWritten → All (λ v. PassesArg p.built r.id v.now) vs
      → option_map (λ s. read_as how s.now) (slice_get vs 0) ≡ Some t → IsUnsignedIn low high t
  first_accepted how [] t is all e = cc
  first_accepted how (v ∷ vs) t is all e =
      let same : v.now ≡ t = ap (λ (o : Option Text). unwrap_or o t) (ap (λ (h : Reading). Some (read_as h v.now)) (sym is) ∙ e) in
      subst (IsUnsignedIn low high) same (accepted v.now (All-get_or (λ v. PassesArg p.built r.id v.now) (v ∷ vs) 0 v (omega arith) all))

  entry_accepted : groups_of p.built ≡ [] → (t : Text) (e : Entry) → bytes_eq e.0.now r.id ≡ true → EntryPasses p.built e
      → option_map (λ s. read_as e.1.reading s.now) (slice_get e.1.vals.items 0) ≡ Some t → IsUnsignedIn low high t
  entry_accepted none t e key pass read =
      let is : e.0.now ≡ r.id = (bytes_eq-Decides e.0.now r.id).0 key in
      let no_group : e.1.is_group ≡ true → ⊥ = λ g. elim (pass.3 g) [
        | inl empty ↦ differ r.id [] n.named (sym is ∙ empty)
        | inr lots ↦ let bad : 0 < 0 = rw none at lots in absurd (omega arith)
      ] in
      let all : All (λ v. PassesArg p.built r.id v.now) e.1.vals.items = elim pass.0 [
        | inl g ↦ absurd (no_group g)
        | inr vals ↦ subst (λ (w : Text). All (λ v. PassesArg p.built w v.now) e.1.vals.items) is vals
      ] in
      let how : e.1.reading ≡ AsWritten = elim pass.4 [
        | inl g ↦ absurd (no_group g)
        | inr h ↦ as_written e.1.reading (subst (λ (w : Text). HasReading p.built w e.1.reading) is h)
      ] in
      first_accepted e.1.reading e.1.vals.items t how all read

  -- a text that was given for the option is a number within its bounds
  pub text_accepted : (out-Command old).has_globals ≡ false → groups_of old ≡ [] → (t : Text) → one_text (found_of m) r.id ≡ Some t → IsUnsignedIn low high t
  text_accepted globals groups t e = go (matched_of (found_of m) r.id) refl e
    where
      parsed : IsParsed p.built (found_of m) (has_subcommand m)
      parsed = p.parsed (p.from.globals ∙ globals)

      none : groups_of p.built ≡ []
      none = (p.from.same_groups (λ i d lt. no_groups (slice_index_or (args_of old) i d)
          (each_rule (λ (x : Rule). x.is_simple) (args_of old) (ap (list_all (λ (x : Rule). x.is_simple)) rules_are ∙ simple) i d lt))).1 ∙ groups

      at : (x : MatchedArg) → ((e : Entry) × (e.1 ≡ x) × (bytes_eq e.0.now r.id ≡ true) × EntryPasses p.built e)
          → option_map (λ s. read_as x.reading s.now) (slice_get x.vals.items 0) ≡ Some t → IsUnsignedIn low high t
      at x got read = entry_accepted none t got.0 got.2 got.3 (rw got.1 read)

      go : (o : Option MatchedArg) → matched_of (found_of m) r.id ≡ o → one_text (found_of m) r.id ≡ Some t → IsUnsignedIn low high t
      go None is h = let bad : None ≡ Some t = rw is at h in cc
      go (Some x) is h = at x (entry_by_id (EntryPasses p.built) (found_of m).entries.items r.id x parsed.values is) (rw is at h)

-- what `get_one` reads of such a text
pub number_read : {E : Type 0} (G : List ℕ → Result ℕ E → Type 0) (k low high : ℕ) (t : Text) (o : Option ℕ)
    → ((x : Result ℕ E) → G t x → ParsesUnsigned k 10 t x) → high < 2 ^ k → ReadsOne G t o → IsUnsignedIn low high t
    → (o ≡ Some (digits_value 10 (without_leading_plus t))) × (low ≤ digits_value 10 (without_leading_plus t)) × (digits_value 10 (without_leading_plus t) ≤ high)
number_read G k low high t (Some v) only fits read h = (ap (λ x. Some x) (only (Ok v) read).1, h.2, h.3)
number_read G k low high t None only fits read h = absurd (only (Err read.0) read.1 (h.0, omega arith))

-- what `get_one` gives for the option
pub given : {E : Type 0} (G : List ℕ → Result ℕ E → Type 0) (bits low high : ℕ) (f : Found) (id : Text) (o : Option ℕ)
    → ((t : Text) (x : Result ℕ E) → G t x → ParsesUnsigned bits 10 t x) → high < 2 ^ bits
    → ((t : Text) → one_text f id ≡ Some t → IsUnsignedIn low high t)
    → (one_text f id ≡ None → o ≡ None) → ((t : Text) → one_text f id ≡ Some t → ReadsOne G t o)
    → (o ≡ number_in id (rows_of f)) × ((n : ℕ) → o ≡ Some n → (low ≤ n) × (n ≤ high))
given G bits low high f id o only fits passes absent present = go (one_text f id) refl
  where
    number : Option Text → Option ℕ
    number = option_map (λ text. digits_value 10 (without_leading_plus text))

    go : (x : Option Text) → one_text f id ≡ x → (o ≡ number_in id (rows_of f)) × ((n : ℕ) → o ≡ Some n → (low ≤ n) × (n ≤ high))
    go None is = (absent is ∙ ap number (sym is ∙ one_text-rows f id), λ n e. let bad : None ≡ Some n = sym (absent is) ∙ e in cc)
    go (Some t) is =
        let read = number_read G bits low high t o (only t) fits (present t is) (passes t is) in (
          read.0 ∙ ap number (sym is ∙ one_text-rows f id),
          λ n e.
              let same : digits_value 10 (without_leading_plus t) ≡ n = ap (λ (y : Option ℕ). unwrap_or y n) (sym read.0 ∙ e) in
              (subst (λ v. low ≤ v) same read.1, subst (λ v. v ≤ high) same read.2),
        )

-- a rule of the list that has this id has this place, where the list begins at place j
abbrev pub names_once : (j k : ℕ) → Text → List Rule → Bool
names_once j k id [] = true
names_once j k id (r ∷ rules) = (if bytes_eq r.id id then j == k else true) && names_once (suc j) k id rules

place_of_name : (j k : ℕ) (id : Text) (rules : List Rule) → names_once j k id rules ≡ true
    → (i : ℕ) (e : Rule) → i < length rules → bytes_eq (slice_index_or rules i e).id id ≡ true → j + i ≡ k
place_of_name j k id [] once i e lt h = absurd (omega arith)
place_of_name j k id (r ∷ rules) once zero e lt h =
    let here : (if bytes_eq r.id id then j == k else true) ≡ true = (both _ _ once).0 in
    let same : (j == k) ≡ true = rw h at here in
    let is : j ≡ k = eqb-true j k same in
    omega arith
place_of_name j k id (r ∷ rules) once (suc i) e lt h =
    let rest : suc j + i ≡ k = place_of_name (suc j) k id rules (both (if bytes_eq r.id id then j == k else true) (names_once (suc j) k id rules) once).1 i e (omega arith) h in
    omega arith

pub only_place : (k : ℕ) (id : Text) (rules : List Rule) → names_once 0 k id rules ≡ true
    → (i : ℕ) (e : Rule) → i < length rules → bytes_eq (slice_index_or rules i e).id id ≡ true → i ≡ k
only_place k id rules once i e lt h = let at : 0 + i ≡ k = place_of_name 0 k id rules once i e lt h in omega arith

-- an option is within its bounds where it was given, or its default is
pub bounded : (o : Option ℕ) (default low high : ℕ) → low ≤ default → default ≤ high → ((n : ℕ) → o ≡ Some n → (low ≤ n) × (n ≤ high))
    → (low ≤ unwrap_or o default) × (unwrap_or o default ≤ high)
bounded None default low high a b h = (a, b)
bounded (Some n) default low high a b h = h n refl

pub some_bounded : (o : Option ℕ) (low high : ℕ) → ((n : ℕ) → o ≡ Some n → (low ≤ n) × (n ≤ high)) → IfSome o (λ n. n ≤ high)
some_bounded None low high h = tt
some_bounded (Some n) low high h = (h n refl).1

-- the options of the command
pub workers_option : IsNumber command workers_rule 0 1 64
workers_option = record { place = omega arith; rule = λ e. refl; parser = refl; named = refl; not_help = refl; not_version = refl; unique = only_place 0 (codes "workers") command.top.rules refl }

pub limit_option : IsNumber command limit_rule 1 1 1000000000000
limit_option = record { place = omega arith; rule = λ e. refl; parser = refl; named = refl; not_help = refl; not_version = refl; unique = only_place 1 (codes "limit") command.top.rules refl }

pub rounds_option : IsNumber command rounds_rule 2 1 1000000
rounds_option = record { place = omega arith; rule = λ e. refl; parser = refl; named = refl; not_help = refl; not_version = refl; unique = only_place 2 (codes "rounds") command.top.rules refl }

pub generate_option : IsNumber command generate_rule 3 0 10000
generate_option = record { place = omega arith; rule = λ e. refl; parser = refl; named = refl; not_help = refl; not_version = refl; unique = only_place 3 (codes "generate") command.top.rules refl }

pub price_option : IsNumber command price_rule 4 0 1000000
price_option = record { place = omega arith; rule = λ e. refl; parser = refl; named = refl; not_help = refl; not_version = refl; unique = only_place 4 (codes "price") command.top.rules refl }

pub has_simple_rules : list_all (λ (r : Rule). r.is_simple) command.top.rules ≡ true
has_simple_rules = refl

pub is_free : is_simple_and_free command ≡ true
unfolding clap_on_literals
is_free = refl

pub is_plain_leaf : IsPlainLeaf command
unfolding clap_on_literals
is_plain_leaf = record { simple = refl; leaf = refl; defaults = refl; free = refl }
