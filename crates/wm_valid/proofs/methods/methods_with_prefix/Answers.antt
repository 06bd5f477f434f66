use Rattle.std.proofs.Common.{◌++◌, ◌-◌, ◌∙◌, ap, sym, length, arith}
use Rattle.std.proofs.lemmas.List.{drop_all}
use Rattle.wm_valid.specs.Methods.{exported_as}
use Rattle.wm_valid.proofs.MethodLemmas.{at_name, methods_more}
use Rattle.wm_valid.proofs.methods.methods_with_prefix.Goals as goal

pub loop-place-init : goal.loop-place-init
loop-place-init c = λ method.
    ap (at_name method) c.new-methods.ensures.empty
    ∙ sym (ap (λ xs. exported_as xs (c.args.prefix.now ++ method)) (drop_all (length c.args.exports.now) c.args.exports.now (omega arith)))

pub loop-place-preserved : goal.loop-place-preserved
loop-place-preserved c =
    methods_more c.loop-place.methods c.add.new.methods c.args.prefix.now c.args.exports.now (c.loop-place.place - 1) c.loop-place.place c.index-exports-place.result
    (omega arith) (omega arith) c.index-exports-place.is c.loop-place.invariant c.in_ok-add.ensures
