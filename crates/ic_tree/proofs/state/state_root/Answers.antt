use Rattle.std.proofs.Common.{ap, ◌∙◌}
use Rattle.ic_state.specs.Seen.{state_of}
use Rattle.ic_tree.specs.HashTree.{root_hash}
use Rattle.ic_tree.specs.StateTree.{state_tree_of}
use Rattle.ic_tree.proofs.Forks.{state_root}
use Rattle.ic_tree.proofs.state.state_root.Goals as goal

pub returns : goal.returns
returns c =
    c.root.ensures ∙ ap root_hash c.in_ok-tree.ensures ∙ state_root (state_of c.parts.result.now)
    ∙ ap (λ s. root_hash (state_tree_of s)) c.parts.ensures.state
