use Rattle.std.proofs.Common.{arith}
use Rattle.ic_tree.specs.View.{view}
use Rattle.ic_witness.proofs.Depths.{none_within}
use Rattle.ic_witness.proofs.stands.+nests_at_most.Goals as goal

pub returns-then-most-eq0 : goal.returns-then-most-eq0
returns-then-most-eq0 t c = none_within (view c.args.tree.now) c.args.most (omega (arith, c.if-most-eq0.true))
