-- What goes out goes where it belongs (IC Interface Specification, "Respond to user request"), as changes of a world's parts.
use Rattle.std.specs.Prelude.{ℕ, List, ◌++◌}
use Rattle.std.specs.List.{flat_map, fold}
use Rattle.ic_behaviour.specs.declared.call.Message.{Message}
use Rattle.ic_behaviour.specs.declared.call.Answered.{Answered}
use Rattle.ic_behaviour.specs.Deliver.{filled, routed}
use Rattle.ic_state.specs.declared.world.Parts.{Parts}

-- an answer to a user goes into the request, every other is a message, which comes last
abbrev pub answered_in : (sender : List ℕ) → Answered → Parts → Parts
answered_in sender a p = record p { messages = p.messages ++ routed sender a; requests = filled p.requests a }

-- the calls come last, and then the answers
abbrev pub sent_from : (sender : List ℕ) → List Message → List Answered → Parts → Parts
sent_from sender calls answers p = record p {
  messages = p.messages ++ calls ++ flat_map (routed sender) answers;
  requests = fold filled p.requests answers;
}
