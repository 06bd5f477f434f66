-- Runs: what happens to a state, one act after another from the empty state on (IC Interface Specification, "Abstract behavior").
use Rattle.std.specs.Prelude.{ℕ, ◌<◌, ◌≤◌, ◌^◌, List, [], ◌∷◌, length}
use Rattle.std.specs.List.{fold}
use Rattle.ic_behaviour.specs.State.{State}
use Rattle.ic_behaviour.specs.Submitted.{empty, submitted, timed}
use Rattle.ic_behaviour.specs.Steps.{Rules, step, IsEligible}

-- the message at a place is delivered, a user calls, or time goes on
pub data Act : Type 0 where
  Delivers : (place : ℕ) → Act
  Submits : (sender callee method arg : List ℕ) → Act
  SetsTime : (time : ℕ) → Act

abbrev pub after_act : Rules → State → Act → State
after_act rules s (Delivers place) = step rules s place
after_act rules s (Submits sender callee method arg) = submitted s sender callee method arg
after_act rules s (SetsTime time) = timed s time

abbrev pub after : Rules → State → List Act → State
after rules s acts = fold (after_act rules) s acts

-- a message may be delivered where its place passes the test, a user may call below 2^20 requests, and time does not go back
abbrev pub IsAllowed : (may : State → ℕ → Type 0) → State → Act → Type 0
IsAllowed may s (Delivers place) = may s place
IsAllowed may s (Submits sender callee method arg) = length s.requests < 2 ^ 20
IsAllowed may s (SetsTime time) = (s.time ≤ time) × (time ≤ 9223372036854775807)

-- each act is allowed in its turn
abbrev pub AreAllowed : (may : State → ℕ → Type 0) → Rules → State → List Act → Type 0
AreAllowed may rules s [] = Unit {0}
AreAllowed may rules s (act ∷ acts) = IsAllowed may s act × AreAllowed may rules (after_act rules s act) acts

-- in a run each message is delivered after those of its sender to its callee
abbrev pub IsRun : Rules → List Act → Type 0
IsRun rules acts = AreAllowed IsEligible rules empty acts

abbrev pub HasMessage : State → (place : ℕ) → Type 0
HasMessage s place = place < length s.messages

-- any message of the list may be delivered: this covers every order that the specification allows
abbrev pub IsAnyRun : Rules → List Act → Type 0
IsAnyRun rules acts = AreAllowed HasMessage rules empty acts

abbrev pub last_state : Rules → List Act → State
last_state rules acts = after rules empty acts

-- ---- what holds on the way

abbrev pub AllStates : (State → Type 0) → Rules → State → List Act → Type 0
AllStates P rules s [] = P s
AllStates P rules s (act ∷ acts) = P s × AllStates P rules (after_act rules s act) acts

-- P holds of each state, the first and the last among them
abbrev pub EachState : (State → Type 0) → Rules → List Act → Type 0
EachState P rules acts = AllStates P rules empty acts

abbrev pub OfDelivery : (ℕ → Type 0) → Act → Type 0
OfDelivery P (Delivers place) = P place
OfDelivery P (Submits sender callee method arg) = Unit {0}
OfDelivery P (SetsTime time) = Unit {0}

abbrev pub AllDeliveries : (State → ℕ → Type 0) → Rules → State → List Act → Type 0
AllDeliveries P rules s [] = Unit {0}
AllDeliveries P rules s (act ∷ acts) = OfDelivery (P s) act × AllDeliveries P rules (after_act rules s act) acts

-- P holds of each delivery, of the state before it and the place
abbrev pub EachDelivery : (State → ℕ → Type 0) → Rules → List Act → Type 0
EachDelivery P rules acts = AllDeliveries P rules empty acts
