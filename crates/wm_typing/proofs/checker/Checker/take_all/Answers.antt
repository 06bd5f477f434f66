use Rattle.std.proofs.Common.{take, ◌∙◌, arith}
use Rattle.std.proofs.lemmas.Result.{err_from_is_err_and}
use Rattle.wm_tree.specs.declared.types.ValType.TheVariants.{I32}
use Rattle.wm_typing.proofs.Lists.{taken_next, taken_none, taken_open}
use Rattle.wm_typing.proofs.checker.Checker.take_all.Goals as goal

pub loop-i-preserved : goal.loop-i-preserved
loop-i-preserved c = (
  taken_next c.args.types.now c.loop-i.i I32 c.loop-i.self.point c.take.new.self.point _ (omega arith) (omega arith) c.loop-i.invariant.0 c.in_ok-take.ensures.0,
  c.in_ok-take.ensures.1 ∙ c.loop-i.invariant.1,
)

pub returns-in_err-take : goal.returns-in_err-take
returns-in_err-take c =
    let p = err_from_is_err_and c.from_residual.result c.from_residual.ensures.1 in
    rw (p.1, p.2) (taken_none c.in_err-take.field-0.0 c.args.types.now c.loop-i.i I32 c.loop-i.self.point _ (omega arith) (omega arith) c.loop-i.invariant.0 c.in_err-take.ensures)

pub returns-then-is_bottomless : goal.returns-then-is_bottomless
returns-then-is_bottomless c =
    (taken_open (take c.loop-i.i c.args.types.now) c.loop-i.self.point _ (c.is_bottomless.ensures c.if-is_bottomless.true) c.loop-i.invariant.0, c.loop-i.invariant.1)
