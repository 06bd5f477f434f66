use Rattle.ic_witness.proofs.Kept.{prune_at}
use Rattle.ic_witness.proofs.laws.pruned_at.Goals as goal

pub returns : goal.returns
returns c = prune_at
