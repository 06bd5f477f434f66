use Rattle.std.proofs.Common.{length}
use Rattle.ic_tree.proofs.tree.+forked.Given as goal

abbrev pub decreases-forked : goal.decreases-forked
decreases-forked l = length l.trees.items
