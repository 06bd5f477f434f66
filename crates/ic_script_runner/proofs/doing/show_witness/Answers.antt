use Rattle.std.proofs.Common.{◌≡◌, ℕ, List, Ok, refl, sym, ap, ◌∙◌}
use Rattle.ic_behaviour.specs.State.{State}
use Rattle.ic_state.specs.Seen.{state_of}
use Rattle.ic_tree.specs.StateTree.{state_tree_of}
use Rattle.ic_queue_rounds.specs.InQueues.{with_messages}
use Rattle.ic_output.specs.Texts.{witness_text}
use Rattle.ic_script_runner.proofs.doing.show_witness.Goals as goal

-- the tree of a state has no messages
pub returns : goal.returns
unfolding witness_text state_tree_of
returns c =
    let value = c.deref.ensures.value in
    let view = c.paths.view_is in
    let paths : c.deref.result.now ≡ c.args.paths.now = cc in
    let p = c.rest.result.now in
    let alike : witness_text (state_of p) c.deref.result.now ≡ witness_text (state_of (with_messages p c.args.world.messages)) c.deref.result.now = refl in
    let text = c.in_ok-text.ensures ∙ alike ∙ ap (λ (s : State). witness_text s c.deref.result.now) c.rest.ensures.state ∙ ap (λ (l : List (List (List ℕ))). witness_text c.args.world l) paths in
    sym (ap (λ (t : List ℕ). Ok (c.args.world, t)) text)
