use Rattle.ic_witness.proofs.Orders.{prune_ordered}
use Rattle.ic_witness.proofs.laws.pruned_ordered.Goals as goal

pub returns : goal.returns
returns c = prune_ordered
