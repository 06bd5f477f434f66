-- Messages are delivered one after another. A message is delivered after those of its sender to its callee (IC Interface Specification, "Ordering guarantees").
use Rattle.std.specs.Prelude.{◌≡◌, ℕ, Bool, false, ◌&&◌, List, [], ◌∷◌, slice_get, take, MatchOption}
use Rattle.std.specs.List.{list_any, fold}
use Rattle.ic_behaviour.specs.declared.call.Message.{Message}
use Rattle.ic_behaviour.specs.declared.call.Message.TheVariants.{Call, Answer}
use Rattle.ic_behaviour.specs.State.{at, callee_of, State}
use Rattle.ic_behaviour.specs.Outcomes.{Enters}
use Rattle.ic_behaviour.specs.Deliver.{Outside, deliver}

-- what a delivery depends on beside the state: what code does, what the management canister does, the most instructions of
-- an execution, and the price of one
pub record Rules : Type 0 where
  pub enters : Enters
  pub outside : Outside
  pub limit : ℕ
  pub price : ℕ

-- the message at a place is delivered
abbrev pub step : Rules → State → (place : ℕ) → State
step rules s place = deliver rules.enters rules.outside rules.limit rules.price s place

abbrev pub sender_of : Message → List ℕ
sender_of (Call from sender callee method arg cycles) = sender
sender_of (Answer from sender response refund) = sender

-- of one sender, to one callee
abbrev pub same_way : Message → Message → Bool
same_way m other = at (sender_of m) (sender_of other) && at (callee_of m) (callee_of other)

-- there is a message at this place, and no earlier one has its sender and its callee
abbrev pub IsEligible : State → (place : ℕ) → Type 0
IsEligible s place = MatchOption (slice_get s.messages place) ⊥ (λ m. list_any (same_way m) (take place s.messages) ≡ false)

-- the messages at these places are delivered, each in the state as it then is
abbrev pub along : Rules → State → (places : List ℕ) → State
along rules s places = fold (step rules) s places

-- each place is eligible in its turn
abbrev pub AreEligible : Rules → State → (places : List ℕ) → Type 0
AreEligible rules s [] = Unit {0}
AreEligible rules s (place ∷ places) = IsEligible s place × AreEligible rules (step rules s place) places
