use Rattle.std.proofs.Common.{◌≡◌, ◌++◌, map}
use Rattle.ic_state.specs.Seen.{entry_of}
use Rattle.ic_tree.specs.StateTree.{canister_tree}
use Rattle.ic_tree.specs.View.{view}
use Rattle.ic_tree.proofs.state.canister_trees.Given as goal

-- the trees that were made, and those of the canisters that are left
abbrev pub invariant-loop-id : goal.invariant-loop-id
invariant-loop-id l =
    map view l.trees.items ++ map canister_tree (map entry_of l.id-iterator) ≡ map canister_tree (map entry_of l.canisters.entries)
