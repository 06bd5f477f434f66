use Rattle.std.proofs.Common.{◌≡◌, ◌∙◌, ◌≤◌, ℕ, List, [], ap, sym, subst, true, false, true≢false, rules, map, string_bytes, Option, None, Result, Some, if◌then◌else◌, refl, arith, Bool}
use Rattle.std.specs.Prelude.{codes, unwrap_or}
use Rattle.std.specs.Str.Parse.{ParsesUnsigned, ExplainsUnsignedError, HasUnsignedDigitsIfOk}
use Rattle.std.specs.declared.num.ParseIntError.{ParseIntError}
use Rattle.clap.specs.Matches.{found_of}
use Rattle.clap.specs.Walk.{Text, rows_of}
use Rattle.clap.specs.Faults.{fault_of, is_simple_and_free}
use Rattle.clap.specs.Takes.{takes}
use Rattle.clap.specs.Simple.{App, app_of, is_simple, matches_of}
use Rattle.clap.specs.declared.error.kind.ErrorKind.TheVariants.{OutOfMemory}
use Rattle.ic_options.specs.Command.{command, workers_rule, limit_rule, rounds_rule, generate_rule, price_rule}
use Rattle.ic_options.specs.Options.{options_in, options_of}
use Rattle.ic_options.specs.declared.Options.{Options}
use Rattle.ic_options.proofs.Numbers.{given, text_accepted, workers_option, limit_option, rounds_option, generate_option, price_option, bounded, some_bounded, has_simple_rules, is_free, is_plain_leaf}
use Rattle.ic_options.proofs.Exact.{taken_without_fault}
use Rattle.ic_options.proofs.Options.read.Goals as goal

abbrev R32 : Text → Result ℕ ParseIntError → Type 0
R32 bs r = ParsesUnsigned 32 10 bs r × ExplainsUnsignedError 10 bs r × HasUnsignedDigitsIfOk bs r

abbrev R64 : Text → Result ℕ ParseIntError → Type 0
R64 bs r = ParsesUnsigned 64 10 bs r × ExplainsUnsignedError 10 bs r × HasUnsignedDigitsIfOk bs r

abbrev or : ℕ → Option ℕ → ℕ
or default o = unwrap_or o default

taken : (words : List Text) → takes command words ≡ true → options_of words ≡ Some (options_in (matches_of command words))
unfolding options_of
taken words e = ap (λ (b : Bool). if b then Some (options_in (matches_of command words)) else None) e

refused : (words : List Text) → (takes command words ≡ true → ⊥) → options_of words ≡ None
unfolding options_of
refused words some = go (takes command words) refl
  where
    go : (b : Bool) → takes command words ≡ b → (if b then Some (options_in (matches_of command words)) else None) ≡ None
    go true e = absurd (some e)
    go false e = refl

pub returns-in-Ok : goal.returns-in-Ok
returns-in-Ok c =
    let words = map string_bytes c.args.words.now in
    let app : app_of c.in_ok-describe.field-0 ≡ command = c.in_ok-describe.ensures.app in
    let m = c.in-Ok.matches in
    let parsed = c.in-Ok.ensures.parsed in
    let free : is_simple_and_free (app_of c.in_ok-describe.field-0) ≡ true = ap is_simple_and_free app ∙ is_free in
    let simple : is_simple (app_of c.in_ok-describe.field-0) ≡ true = ap is_simple app ∙ is_plain_leaf.simple in
    let none : fault_of command words ≡ [] = ap (λ (a : App). fault_of a words) (sym app) ∙ c.in-Ok.ensures.kinds free in
    let rows : rows_of (found_of m) ≡ matches_of command words = (c.in-Ok.ensures.matches simple).0 ∙ ap (λ (a : App). matches_of a words) app in
    let local = c.in_ok-describe.ensures.local in
    let plain = c.in_ok-describe.ensures.plain in
    let workers = given R32 32 1 64 (found_of m) (codes "workers") c.get_one-workers_given.result (λ t x g. g.0) (omega arith)
    (text_accepted command has_simple_rules c.in_ok-describe.field-0 m parsed app workers_rule 0 1 64 workers_option local plain)
    c.get_one-workers_given.ensures.none c.get_one-workers_given.ensures.value in
    let limit = given R64 64 1 1000000000000 (found_of m) (codes "limit") c.get_one-limit_given.result (λ t x g. g.0) (omega arith)
    (text_accepted command has_simple_rules c.in_ok-describe.field-0 m parsed app limit_rule 1 1 1000000000000 limit_option local plain)
    c.get_one-limit_given.ensures.none c.get_one-limit_given.ensures.value in
    let rounds = given R32 32 1 1000000 (found_of m) (codes "rounds") c.get_one-rounds_given.result (λ t x g. g.0) (omega arith)
    (text_accepted command has_simple_rules c.in_ok-describe.field-0 m parsed app rounds_rule 2 1 1000000 rounds_option local plain)
    c.get_one-rounds_given.ensures.none c.get_one-rounds_given.ensures.value in
    let generate = given R32 32 0 10000 (found_of m) (codes "generate") c.get_one-generate.result (λ t x g. g.0) (omega arith)
    (text_accepted command has_simple_rules c.in_ok-describe.field-0 m parsed app generate_rule 3 0 10000 generate_option local plain)
    c.get_one-generate.ensures.none c.get_one-generate.ensures.value in
    let price = given R64 64 0 1000000 (found_of m) (codes "price") c.get_one-price_given.result (λ t x g. g.0) (omega arith)
    (text_accepted command has_simple_rules c.in_ok-describe.field-0 m parsed app price_rule 4 0 1000000 price_option local plain)
    c.get_one-price_given.ensures.none c.get_one-price_given.ensures.value in
    let limit_is : c.unwrap_or-limit.result ≡ unwrap_or c.get_one-limit_given.result 50000000 = search rules in
    let rounds_is : c.unwrap_or-rounds.result ≡ unwrap_or c.get_one-rounds_given.result 100000 = search rules in
    let workers_is : c.unwrap_or-workers.result ≡ unwrap_or c.get_one-workers_given.result 1 = search rules in
    let price_is : c.unwrap_or-price.result ≡ unwrap_or c.get_one-price_given.result 0 = search rules in
    let is : record { limit = c.unwrap_or-limit.result; rounds = c.unwrap_or-rounds.result; workers = c.unwrap_or-workers.result; price = c.unwrap_or-price.result; generate = c.get_one-generate.result } ≡ options_in (rows_of (found_of m)) =
    λ i. record {
      limit = (limit_is ∙ ap (or 50000000) limit.0) i;
      rounds = (rounds_is ∙ ap (or 100000) rounds.0) i;
      workers = (workers_is ∙ ap (or 1) workers.0) i;
      price = (price_is ∙ ap (or 0) price.0) i;
      generate = generate.0 i;
    } in
    record {
      value = ap (λ (o : Options). Some o) (is ∙ ap options_in rows) ∙ sym (taken words (taken_without_fault command is_plain_leaf words none));
      bounds = record {
        limit = subst (λ n. (1 ≤ n) × (n ≤ 1000000000000)) (sym limit_is) (bounded _ 50000000 1 1000000000000 (omega arith) (omega arith) limit.1);
        rounds = subst (λ n. (1 ≤ n) × (n ≤ 1000000)) (sym rounds_is) (bounded _ 100000 1 1000000 (omega arith) (omega arith) rounds.1);
        workers = subst (λ n. (1 ≤ n) × (n ≤ 64)) (sym workers_is) (bounded _ 1 1 64 (omega arith) (omega arith) workers.1);
        price = subst (λ n. n ≤ 1000000) (sym price_is) (bounded _ 0 0 1000000 (omega arith) (omega arith) price.1).1;
        generate = some_bounded _ 0 10000 generate.1;
      };
    }

pub returns : goal.returns
returns c =
    let words = map string_bytes c.args.words.now in
    let app : app_of c.in_ok-describe.field-0 ≡ command = c.in_ok-describe.ensures.app in
    let other : c.kind.result ≡ OutOfMemory → ⊥ = λ e. let bad : c.eq.result ≡ true = rw (c.eq.ensures, e) refl in true≢false (sym bad ∙ c.if-eq.false) in
    record {
      value = sym (refused words (λ t. other (c.kind.ensures ∙ c.in-Err.ensures.passes (ap (λ (a : App). takes a words) app ∙ t))));
      bounds = tt;
    }
