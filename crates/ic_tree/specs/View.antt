-- The hash tree that a tree of the program is.
use Rattle.ic_tree.specs.HashTree.{HashTree, empty, fork, labeled, leaf, pruned}
use Rattle.ic_tree.specs.declared.tree.Tree.{Tree}
use Rattle.ic_tree.specs.declared.tree.Tree.TheVariants.{Empty, Fork', Labeled', Leaf, Pruned}

unfoldable pub view : Tree → HashTree
view Empty = empty
view (Fork' p left q right) = fork (view left) (view right)
view (Labeled' label p part) = labeled label (view part)
view (Leaf bytes) = leaf bytes
view (Pruned hash) = pruned hash
