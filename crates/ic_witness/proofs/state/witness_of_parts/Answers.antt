use Rattle.std.proofs.Common.{subst, sym}
use Rattle.ic_state.specs.Seen.{state_of}
use Rattle.ic_tree.specs.StateTree.{state_tree_of}
use Rattle.ic_witness.specs.Witness.{HasWitnesses}
use Rattle.ic_witness.proofs.Depths.{state_stands}
use Rattle.ic_witness.proofs.state.witness_of_parts.Goals as goal

-- the tree is that of the world, whatever its messages
pub written-requires : goal.written-requires
unfolding state_tree_of
written-requires c =
    let s = state_of (record c.args.parts.now { messages = c.requires.keeps.0 }) in
    subst HasWitnesses (sym c.in_ok-tree.ensures) (state_stands s c.requires.keeps.1.sound)
