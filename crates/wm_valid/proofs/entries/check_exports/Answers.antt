use Rattle.std.proofs.Common.{◌≡◌, false, true, sym, ◌∙◌, ap}
use Rattle.std.specs.Prelude.{option_map}
use Rattle.wm_tree.specs.declared.parts.Module.{Module}
use Rattle.wm_valid.specs.declared.invalid.Invalid.TheVariants as fault
use Rattle.wm_valid.specs.Entries.{is_bad_export, least_bad}
use Rattle.wm_valid.proofs.NameLemmas.{names_more, is_bad, least_bad_more, least_bad_here}
use Rattle.wm_valid.proofs.entries.check_exports.Goals as goal

pub loop-place-preserved : goal.loop-place-preserved
loop-place-preserved c =
    let m = c.args.«module».now in
    let exports = c.as_slice-exports.result.now in
    let export = c.index-exports-place.result in
    let same : exports ≡ m.exports = c.as_slice-exports.ensures.value ∙ ap (λ (x : Module). x.exports) c.«module».view_is in
    let bad : is_bad_export m c.loop-place.place export ≡ false =
    sym (is_bad m exports c.loop-place.place export c.loop-place.seen same c.loop-place.invariant.0) ∙ sym c.in_ok-is_bad.ensures.bad ∙ c.if-branch.false in (
      names_more c.loop-place.seen c.is_bad.new.seen exports c.loop-place.place export c.loop-place-test.true c.index-exports-place.is c.loop-place.invariant.0 c.in_ok-is_bad.ensures.seen,
      sym (least_bad_more m exports c.loop-place.place export c.loop-place-test.true c.index-exports-place.is bad) ∙ c.loop-place.invariant.1,
    )

pub returns-then-branch-clause-fault : goal.returns-then-branch-clause-fault
returns-then-branch-clause-fault c =
    let m = c.args.«module».now in
    let exports = c.as_slice-exports.result.now in
    let export = c.index-exports-place.result in
    let same : exports ≡ m.exports = c.as_slice-exports.ensures.value ∙ ap (λ (x : Module). x.exports) c.«module».view_is in
    let bad : is_bad_export m c.loop-place.place export ≡ true =
    sym (is_bad m exports c.loop-place.place export c.loop-place.seen same c.loop-place.invariant.0) ∙ sym c.in_ok-is_bad.ensures.bad ∙ c.if-branch.true in
    let here = sym c.loop-place.invariant.1 ∙ least_bad_here m exports c.loop-place.place export c.loop-place-test.true c.index-exports-place.is bad in
    ap (λ xs. option_map (λ n. fault.Entry n) (least_bad m 0 xs)) (sym same) ∙ ap (option_map (λ n. fault.Entry n)) here
