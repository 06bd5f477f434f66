use Rattle.ic_state.proofs.Worlds.{drained_yes, drained_no}
use Rattle.ic_state.proofs.world.World.drained.Goals as goal

pub returns-then-is_empty-clause-yes : goal.returns-then-is_empty-clause-yes
returns-then-is_empty-clause-yes c = drained_yes c.self.inside.parts c.args.self.now c.is_empty.result c.nobody_waits.result c.self.view_is c.is_empty.ensures c.if-is_empty.true c.nobody_waits.ensures

pub returns-then-is_empty-clause-no : goal.returns-then-is_empty-clause-no
returns-then-is_empty-clause-no c = drained_no c.self.inside.parts c.args.self.now c.nobody_waits.result c.self.view_is c.nobody_waits.ensures
