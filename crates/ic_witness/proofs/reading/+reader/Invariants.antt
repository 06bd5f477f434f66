-- Each step down the tree takes one from the depth.
use Rattle.std.proofs.Common.{◌+◌, ◌*◌}
use Rattle.ic_witness.proofs.reading.+reader.Given as goal

abbrev pub decreases-read_tree : goal.decreases-read_tree
decreases-read_tree l = 2 * l.depth

abbrev pub decreases-read_fork : goal.decreases-read_fork
decreases-read_fork l = 2 * l.depth + 1

abbrev pub decreases-read_labeled : goal.decreases-read_labeled
decreases-read_labeled l = 2 * l.depth + 1
