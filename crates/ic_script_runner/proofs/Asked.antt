-- A world is asked: all but its messages is lent, and comes back as it was.
use Rattle.std.proofs.Common.{◌≡◌, ℕ, ◌<◌, true, false, length, Ok, refl, sym, ap, ◌∙◌}
use Rattle.std.specs.Map.{keys_of}
use Rattle.std.proofs.lemmas.Bool.{lt-ltb}
use Rattle.std.proofs.lemmas.Map.Made.{keys_of-map_values}
use Rattle.ic_behaviour.specs.State.{State}
use Rattle.ic_behaviour.specs.Counted.{dropped}
use Rattle.ic_behaviour.specs.Submitted.{submitted}
use Rattle.ic_state.specs.declared.world.Parts.{Parts}
use Rattle.ic_state.specs.Seen.{seen, state_of}
use Rattle.ic_state.specs.IsWorld.{IsWorld}
use Rattle.ic_queues.specs.Queued.{Queued}
use Rattle.ic_queue_rounds.specs.InQueues.{IsInQueues, with_messages}
use Rattle.ic_script.specs.declared.Ask.{Ask}
use Rattle.ic_script.specs.declared.Command.TheVariants.{Call}
use Rattle.ic_options.specs.declared.Options.{Options}
use Rattle.ic_output.specs.Texts.{accepted_text, call_refused_text}
use Rattle.ic_script_runner.specs.AfterCommand.{accepts_now, after_command}

ids_seen : (p : Parts) → keys_of (state_of p).canisters ≡ keys_of p.canisters.entries
ids_seen p = keys_of-map_values (λ c. dropped (seen c)) p.canisters.entries

pub given_back : (rest after : Parts) (q : Queued) → IsInQueues rest q → state_of (with_messages after q.messages) ≡ state_of (with_messages rest q.messages)
    → IsWorld (with_messages after q.messages) → after.messages ≡ rest.messages → IsInQueues after q
given_back rest after q is same keeps messages = record {
  keeps = keeps;
  canisters = is.canisters ∙ sym (ids_seen rest) ∙ ap (λ (s : State). keys_of s.canisters) (sym same) ∙ ids_seen after;
  none = messages ∙ is.none;
}

-- a call, as its callee answers
module _ (options : Options) (s : State) (ask : Ask) (few : length s.requests < 1048576) where
  pub call_accepted : accepts_now options s ask ≡ true
      → after_command options s (Call ask) ≡ Ok (submitted s ask.sender ask.callee ask.method ask.arg, accepted_text (length s.requests))
  unfolding after_command
  call_accepted is = rw (lt-ltb (length s.requests) 1048576 few, is) refl

  pub call_refused : accepts_now options s ask ≡ false → after_command options s (Call ask) ≡ Ok (s, call_refused_text)
  unfolding after_command
  call_refused is = rw (lt-ltb (length s.requests) 1048576 few, is) refl
