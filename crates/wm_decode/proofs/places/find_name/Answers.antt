use Rattle.std.proofs.Common.{◌≡◌, Some, None, length, nat_eq, false, sym, refl, ◌∙◌, eq-eqb}
use Rattle.std.proofs.lemmas.Bool.{ne_eqb}
use Rattle.std.proofs.lemmas.Result.{err_from_is_err_and}
use Rattle.wm_decode.specs.Listing.{naming_at, name_if}
use Rattle.wm_decode.proofs.ListingSteps.{no_item, item_found, item_passed, none_found}
use Rattle.wm_decode.proofs.places.find_name.Goals.{else-from-function-via-then-from-function+else-not-is_empty, else-from-function-via-else-from-function}
use Rattle.wm_decode.proofs.places.find_name.Goals as goal

pub returns-in_err-index : goal.returns-in_err-index
returns-in_err-index c =
    let p = err_from_is_err_and c.from_residual.result c.from_residual.ensures.1 in
    rw (p.1, p.2) (no_item c.in_err-index.field-0.0 naming_at (name_if c.args.function) c.args.count c.loop.counter c.loop.rest.now _ c.loop-test.true c.in_err-index.ensures c.loop.invariant)

pub returns-then-not-is_empty : goal.returns-then-not-is_empty
returns-then-not-is_empty c =
    let same = eq-eqb c.in_ok-index.index c.args.function (sym c.from.ensures ∙ c.if-from-function.true) in
    let named : nat_eq (length c.in_ok-index.name.now) 0 ≡ false = sym c.is_empty.ensures ∙ c.if-not-is_empty.true in
    let given : name_if c.args.function (c.in_ok-index.index, c.in_ok-index.name.now) ≡ Some c.in_ok-index.name.now = rw (same, named) refl in
    item_found naming_at (name_if c.args.function) c.args.count c.loop.counter c.loop.rest.now c.in_ok-index.after.now _ _ _ c.loop-test.true c.in_ok-index.ensures given c.loop.invariant

pub loop-preserved : goal.loop-preserved
loop-preserved c =
    let passed : name_if c.args.function (c.in_ok-index.index, c.in_ok-index.name.now) ≡ None =
    elim c.else-from-function.branch [
      | else-from-function-via-then-from-function+else-not-is_empty w ↦ rw (sym w.is_empty.ensures, w.if-not-is_empty.false, eq-eqb c.in_ok-index.index c.args.function (sym c.from.ensures ∙ w.if-from-function.true)) refl
      | else-from-function-via-else-from-function w ↦ rw (ne_eqb c.in_ok-index.index c.args.function (λ e. w.if-from-function.false (c.from.ensures ∙ e))) refl
    ] in
    item_passed naming_at (name_if c.args.function) c.args.count c.loop.counter c.loop.rest.now c.in_ok-index.after.now _ _ c.loop-test.true c.in_ok-index.ensures passed c.loop.invariant

pub returns : goal.returns
returns c = none_found naming_at (name_if c.args.function) c.args.count c.loop.counter c.loop.rest.now _ c.loop-test.false c.loop.invariant
