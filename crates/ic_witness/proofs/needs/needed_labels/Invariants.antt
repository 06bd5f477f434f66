use Rattle.std.proofs.Common.{◌≡◌, ◌++◌, drop}
use Rattle.ic_tree.specs.View.{view}
use Rattle.ic_witness.specs.Needed.{labels_at, needed_labels, paths_at}
use Rattle.ic_witness.specs.Nodes.{flat}
use Rattle.ic_witness.proofs.needs.needed_labels.Given as goal

-- what was found and what is left to find are all
abbrev pub invariant-loop-path : goal.invariant-loop-path
invariant-loop-path l = labels_at l.needed.items ++ needed_labels (flat (view l.tree)) (paths_at (drop l.path-index l.paths)) ≡ needed_labels (flat (view l.tree)) (paths_at l.paths)
