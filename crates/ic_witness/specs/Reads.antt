-- What a call that reads a tree answers.
use Rattle.std.specs.Prelude.{◌≡◌, Result, Ok, Err}
use Rattle.ic_tree.specs.HashTree.{HashTree}
use Rattle.ic_tree.specs.View.{view}
use Rattle.ic_tree.specs.declared.tree.Tree.{Tree}
use Rattle.ic_witness.specs.declared.fault.TreeFault.{TreeFault}
use Rattle.ic_witness.specs.declared.fault.TreeFault.TheVariants.{NotTree, NoMemory}

-- the answer is this tree, unless memory ran out
abbrev pub ReadsTree : Result Tree TreeFault → HashTree → Type 0
ReadsTree (Ok tree) expected = view tree ≡ expected
ReadsTree (Err NotTree) expected = ⊥
ReadsTree (Err NoMemory) expected = Unit {0}
