-- Trees that have witnesses, and the witness of a state.
use Rattle.std.specs.Prelude.{◌≡◌, ℕ, ◌≤◌, true, List, ◌++◌}
use Rattle.std.specs.List.{All}
use Rattle.ic_behaviour.specs.State.{State}
use Rattle.ic_tree.specs.HashTree.{HashTree, root_hash}
use Rattle.ic_tree.specs.StateTree.{state_tree_of}
use Rattle.ic_witness.specs.At.{at, is_ordered}
use Rattle.ic_witness.specs.Cbor.{cbor, depth, tag}
use Rattle.ic_witness.specs.Nodes.{Path}
use Rattle.ic_witness.specs.Prune.{prune}
use Rattle.ic_witness.specs.Whole.{is_whole}

-- labels rise, no node is pruned, and what is pruned of it can be written
pub record HasWitnesses (tree : HashTree) : Type 0 where
  pub ordered : is_ordered tree ≡ true
  pub whole : is_whole tree ≡ true
  pub shallow : depth tree ≤ 128

-- the one tree has the root hash of the other, and says of each of the paths what that says
pub record SaysAlike (pruned whole : HashTree) (paths : List Path) : Type 0 where
  pub root : root_hash pruned ≡ root_hash whole
  pub answers : All (λ path. at pruned path ≡ at whole path) paths

-- the bytes of a tree's witness for these paths
abbrev pub witness_bytes : HashTree → List Path → List ℕ
witness_bytes tree paths = tag ++ cbor (prune tree paths)

-- the bytes of the witness for these paths of the tree of a state
abbrev pub state_witness : State → List Path → List ℕ
state_witness s paths = witness_bytes (state_tree_of s) paths
