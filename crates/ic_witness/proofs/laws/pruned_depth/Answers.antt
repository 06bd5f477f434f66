use Rattle.ic_witness.proofs.Depths.{prune_depth}
use Rattle.ic_witness.proofs.laws.pruned_depth.Goals as goal

pub returns : goal.returns
returns c = prune_depth
