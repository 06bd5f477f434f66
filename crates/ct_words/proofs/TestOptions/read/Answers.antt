use Rattle.std.proofs.Common.{◌≡◌, ◌∙◌, ◌≤◌, ℕ, List, [], ap, ap₂, sym, subst, true, false, true≢false, rules, map, option_map, string_bytes, Option, None, Result, Some, if◌then◌else◌, refl, arith, Bool}
use Rattle.std.specs.Prelude.{IfSome, codes, unwrap_or}
use Rattle.std.specs.Str.Parse.{ParsesUnsigned, ExplainsUnsignedError, HasUnsignedDigitsIfOk}
use Rattle.std.specs.declared.num.ParseIntError.{ParseIntError}
use Rattle.clap.specs.Matches.{found_of}
use Rattle.clap.specs.Walk.{Text, all_of, first_of, rows_of}
use Rattle.clap.specs.Faults.{fault_of, is_simple_and_free}
use Rattle.clap.specs.Takes.{takes}
use Rattle.clap.specs.Simple.{App, app_of, is_simple, matches_of}
use Rattle.clap.specs.declared.error.kind.ErrorKind.TheVariants.{OutOfMemory}
use Rattle.clap.proofs.WalkLemmas.{first_value-rows, raw_values-rows}
use Rattle.ic_options.proofs.Exact.{taken_without_fault}
use Rattle.ic_options.proofs.Numbers.{given, text_accepted, bounded}
use Rattle.ic_options.specs.Command.{limit_rule, price_rule}
use Rattle.ct_words.specs.Command.{command, states_rule}
use Rattle.ct_words.specs.Options.{HasBounds, choice_of, given_options, is_set, options_in, options_of}
use Rattle.ct_words.specs.declared.TestOptions.{TestOptions}
use Rattle.ct_words.proofs.Command.{limit_option, price_option, states_option, has_simple_rules, is_free, is_plain_leaf}
use Rattle.ct_words.proofs.TestOptions.read.Goals as goal

abbrev R32 : Text → Result ℕ ParseIntError → Type 0
R32 bs r = ParsesUnsigned 32 10 bs r × ExplainsUnsignedError 10 bs r × HasUnsignedDigitsIfOk bs r

abbrev R64 : Text → Result ℕ ParseIntError → Type 0
R64 bs r = ParsesUnsigned 64 10 bs r × ExplainsUnsignedError 10 bs r × HasUnsignedDigitsIfOk bs r

abbrev or : ℕ → Option ℕ → ℕ
or default o = unwrap_or o default

taken : (words : List Text) → takes command words ≡ true → options_of words ≡ options_in (matches_of command words)
unfolding options_of
taken words e = ap (λ (b : Bool). if b then options_in (matches_of command words) else None) e

refused : (words : List Text) → (takes command words ≡ true → ⊥) → options_of words ≡ None
unfolding options_of
refused words some = go (takes command words) refl
  where
    go : (b : Bool) → takes command words ≡ b → (if b then options_in (matches_of command words) else None) ≡ None
    go true e = absurd (some e)
    go false e = refl

-- options whose numbers lie within bounds have bounds
has_bounds : (limit price states : ℕ) (o : Option TestOptions) → IfSome o (λ options. (options.limit ≡ limit) × (options.price ≡ price) × (options.states ≡ states))
    → (1 ≤ limit) × (limit ≤ 1000000000000) → (0 ≤ price) × (price ≤ 1000000) → (1 ≤ states) × (states ≤ 1000000) → IfSome o HasBounds
has_bounds limit price states None same l p s = tt
has_bounds limit price states (Some options) same l p s = record {
  limit = subst (λ n. (1 ≤ n) × (n ≤ 1000000000000)) (sym same.0) l;
  price = subst (λ n. n ≤ 1000000) (sym same.1) p.1;
  states = subst (λ n. (1 ≤ n) × (n ≤ 1000000)) (sym same.2) s;
}

pub returns-in-Ok : goal.returns-in-Ok
returns-in-Ok c =
    let words = map string_bytes c.args.words.now in
    let made = c.in_ok-describe.field-0 in
    let app : app_of made ≡ command = c.in_ok-describe.ensures.app in
    let m = c.in-Ok.matches in
    let f = found_of m in
    let parsed = c.in-Ok.ensures.parsed in
    let free : is_simple_and_free (app_of made) ≡ true = ap is_simple_and_free app ∙ is_free in
    let simple : is_simple (app_of made) ≡ true = ap is_simple app ∙ is_plain_leaf.simple in
    let none : fault_of command words ≡ [] = ap (λ (a : App). fault_of a words) (sym app) ∙ c.in-Ok.ensures.kinds free in
    let rows : rows_of f ≡ matches_of command words = (c.in-Ok.ensures.matches simple).0 ∙ ap (λ (a : App). matches_of a words) app in
    let local = c.in_ok-describe.ensures.local in
    let plain = c.in_ok-describe.ensures.plain in
    let limit = given R64 64 1 1000000000000 f (codes "limit") c.get_one-limit_given.result (λ t x g. g.0) (omega arith)
    (text_accepted command has_simple_rules made m parsed app limit_rule 0 1 1000000000000 limit_option local plain)
    c.get_one-limit_given.ensures.none c.get_one-limit_given.ensures.value in
    let price = given R64 64 0 1000000 f (codes "price") c.get_one-price_given.result (λ t x g. g.0) (omega arith)
    (text_accepted command has_simple_rules made m parsed app price_rule 1 0 1000000 price_option local plain)
    c.get_one-price_given.ensures.none c.get_one-price_given.ensures.value in
    let states = given R32 32 1 1000000 f (codes "states") c.get_one-states_given.result (λ t x g. g.0) (omega arith)
    (text_accepted command has_simple_rules made m parsed app states_rule 2 1 1000000 states_option local plain)
    c.get_one-states_given.ensures.none c.get_one-states_given.ensures.value in
    let limit_is : c.unwrap_or-limit.result ≡ unwrap_or c.get_one-limit_given.result 50000000 = search rules in
    let price_is : c.unwrap_or-price.result ≡ unwrap_or c.get_one-price_given.result 0 = search rules in
    let states_is : c.unwrap_or-states.result ≡ unwrap_or c.get_one-states_given.result 20000 = search rules in
    let only : option_map (λ part. part.now) c.get_str-only.result ≡ first_of (codes "only") (rows_of f) = c.get_str-only.ensures ∙ first_value-rows f (codes "only") in
    let script : option_map (λ name. name.now) c.get_str-script.result ≡ first_of (codes "script") (rows_of f) = c.get_str-script.ensures ∙ first_value-rows f (codes "script") in
    let picture : option_map (λ name. name.now) c.get_str-picture.result ≡ first_of (codes "picture") (rows_of f) = c.get_str-picture.ensures ∙ first_value-rows f (codes "picture") in
    let traced : option_map (λ text. text.now) c.get_str-traced.result ≡ first_of (codes "trace") (rows_of f) = c.get_str-traced.ensures ∙ first_value-rows f (codes "trace") in
    let trace_is : c.is_set-trace.result ≡ is_set (first_of (codes "trace") (rows_of f)) = c.is_set-trace.ensures ∙ ap is_set traced in
    let files : option_map (λ names. map (λ name. name.now) names.now) c.get_strs-names.result ≡ all_of (codes "files") (rows_of f) = c.get_strs-names.ensures ∙ raw_values-rows f (codes "files") in
    let choice_is : c.in_ok-choice-in-Ok.choice ≡ choice_of (first_of (codes "only") (rows_of f)) (first_of (codes "script") (rows_of f)) (first_of (codes "picture") (rows_of f)) =
    c.in_ok-choice-in-Ok.ensures ∙ (λ i. choice_of (only i) (script i) (picture i)) in
    let files_is : c.in_ok-files-in-Ok.files ≡ all_of (codes "files") (rows_of f) = c.in_ok-files-in-Ok.ensures ∙ files in
    let is : given_options c.unwrap_or-limit.result c.unwrap_or-price.result c.unwrap_or-states.result c.is_set-trace.result c.in_ok-choice-in-Ok.choice c.in_ok-files-in-Ok.files ≡ options_in (rows_of f) =
    λ i. given_options ((limit_is ∙ ap (or 50000000) limit.0) i) ((price_is ∙ ap (or 0) price.0) i) ((states_is ∙ ap (or 20000) states.0) i) (trace_is i) (choice_is i) (files_is i) in
    record {
      value = c.given.ensures.value ∙ (is ∙ (ap options_in rows ∙ sym (taken words (taken_without_fault command is_plain_leaf words none))));
      bounds = has_bounds _ _ _ _ c.given.ensures.numbers
          (subst (λ n. (1 ≤ n) × (n ≤ 1000000000000)) (sym limit_is) (bounded _ 50000000 1 1000000000000 (omega arith) (omega arith) limit.1))
          (subst (λ n. (0 ≤ n) × (n ≤ 1000000)) (sym price_is) (bounded _ 0 0 1000000 (omega arith) (omega arith) price.1))
          (subst (λ n. (1 ≤ n) × (n ≤ 1000000)) (sym states_is) (bounded _ 20000 1 1000000 (omega arith) (omega arith) states.1));
    }

pub returns : goal.returns
returns c =
    let words = map string_bytes c.args.words.now in
    let app : app_of c.in_ok-describe.field-0 ≡ command = c.in_ok-describe.ensures.app in
    let other : c.kind.result ≡ OutOfMemory → ⊥ = λ e. let bad : c.eq.result ≡ true = rw (c.eq.ensures, e) refl in true≢false (sym bad ∙ c.if-eq.false) in
    record {
      value = sym (refused words (λ t. other (c.kind.ensures ∙ c.in-Err.ensures.passes (ap (λ (a : App). takes a words) app ∙ t))));
      bounds = tt;
    }
