-- States that differ only in the order of messages that go different ways. No standard has this.
use Rattle.std.specs.Prelude.{◌≡◌, ℕ, List, [], slice_get}
use Rattle.std.specs.List.{filter}
use Rattle.ic_behaviour.specs.declared.call.Message.{Message}
use Rattle.ic_behaviour.specs.State.{State}
use Rattle.ic_behaviour.specs.Deliver.{Outside}
use Rattle.ic_behaviour.specs.Steps.{Rules, step}
use Rattle.ic_order.specs.declared.way.Way.{Way}
use Rattle.ic_order.specs.Ways.{is_on, MayComeNext}

-- the messages of each way are the same, in one order
abbrev pub SameWays : List Message → List Message → Type 0
SameWays ms ns = (way : Way) → filter (is_on way) ms ≡ filter (is_on way) ns

abbrev pub without_messages : State → State
without_messages s = record s { messages = [] }

-- all but the messages is equal, and so are the messages of each way
pub record SameState (s t : State) : Type 0 where
  pub rest : without_messages s ≡ without_messages t
  pub messages : SameWays s.messages t.messages

-- the message that is delivered from s may come next in t, at some place, and the states after it are the same
pub record IsMatched (rules : Rules) (s t : State) (place : ℕ) : Type 0 where
  pub other : ℕ
  pub message : slice_get t.messages other ≡ slice_get s.messages place
  pub may : MayComeNext t other
  pub after : SameState (step rules s place) (step rules t other)

-- what the management canister does with a call does not depend on that order
abbrev pub RespectsOrder : Outside → Type 0
RespectsOrder outside = (limit : ℕ) (s t : State) (m : Message) → SameState s t → SameState (outside limit s m) (outside limit t m)
