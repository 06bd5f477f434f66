use Rattle.std.proofs.Common.{length, ap, arith}
use Rattle.ic_leb.proofs.Shortest.{next_seven, last_seven, few_sevens}
use Rattle.ic_leb.proofs.writing.size.Goals as goal

pub overflow_add-size : goal.overflow_add-size
overflow_add-size c = omega (arith, c.loop-left.invariant, few_sevens c.args.end c.args.negative c.args.n (omega arith) (omega arith))

pub loop-left-preserved : goal.loop-left-preserved
loop-left-preserved c =
    omega (arith, c.loop-left.invariant, ap length (next_seven c.args.end c.args.negative c.loop-left.left (omega arith) c.loop-left-test.true))

pub returns : goal.returns
returns c =
    omega (arith, c.loop-left.invariant, ap length (last_seven c.args.end c.args.negative c.loop-left.left c.loop-left.left c.loop-left-test.false))
