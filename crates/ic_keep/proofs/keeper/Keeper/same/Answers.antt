use Rattle.std.proofs.Common.{ap}
use Rattle.ic_keep.specs.Kept.{state_at}
use Rattle.ic_keep.proofs.Unique.{one_state}
use Rattle.ic_keep.proofs.keeper.Keeper.same.Goals as goal

pub returns : goal.returns
returns c = (
  λ yes. ap (state_at c.args.self.now) (c.same.ensures.0 yes),
  λ same. c.same.ensures.1 (one_state c.args.self.now c.are_tables.ensures c.args.a.now c.args.b.now c.requires.first c.requires.second same),
)
