use Rattle.ic_witness.proofs.Roots.{prune_root}
use Rattle.ic_witness.proofs.laws.pruned_root.Goals as goal

pub returns : goal.returns
returns c = prune_root
