-- A world whose messages are in queues. No standard has this.
use Rattle.std.specs.Prelude.{◌≡◌, List, []}
use Rattle.std.specs.Map.{keys_of}
use Rattle.ic_behaviour.specs.declared.call.Message.{Message}
use Rattle.ic_state.specs.declared.world.Parts.{Parts}
use Rattle.ic_state.specs.IsWorld.{IsWorld}
use Rattle.ic_queues.specs.Queued.{Queued}

abbrev pub with_messages : Parts → List Message → Parts
with_messages p messages = record p { messages = messages }

-- with the messages of the queues it is a world, and each canister has a queue, and nothing else has
pub record IsInQueues (rest : Parts) (q : Queued) : Type 0 where
  pub keeps : IsWorld (with_messages rest q.messages)
  pub canisters : q.canisters ≡ keys_of rest.canisters.entries
  pub none : rest.messages ≡ []
