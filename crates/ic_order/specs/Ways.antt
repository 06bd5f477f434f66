-- The ways that messages go, and which message may come next (IC Interface Specification, "Ordering guarantees"): the calls of one canister to another are delivered as from one queue, and neither answers nor the calls of users are ordered.
use Rattle.std.specs.Prelude.{◌≡◌, ℕ, ◌==◌, Bool, false, not, ◌&&◌, List, Option, Some, None, length, take, slice_get, MatchOption}
use Rattle.std.specs.List.{list_any, filter, range_with_len}
use Rattle.ic_behaviour.specs.declared.call.Origin.TheVariants as origin
use Rattle.ic_behaviour.specs.declared.call.Message.{Message}
use Rattle.ic_behaviour.specs.declared.call.Message.TheVariants.{Call, Answer}
use Rattle.ic_behaviour.specs.State.{at, State}
use Rattle.ic_behaviour.specs.Steps.{Rules}
use Rattle.ic_behaviour.specs.Submitted.{empty}
use Rattle.ic_behaviour.specs.Runs.{Act, AreAllowed}
use Rattle.ic_order.specs.declared.way.Way.{Way}
use Rattle.ic_order.specs.declared.way.Way.TheVariants.{Calls, Asks, Answers}

-- All calls of one canister to one callee go one way; each call of a user goes a way of its own, and so does each answer. An
-- answer to a user would go the way of the call; no sound state has one.
abbrev pub way_of : Message → Way
way_of (Call (origin.Canister caller n context callback) sender callee method arg cycles) = Calls sender callee
way_of (Call (origin.Ingress k) sender callee method arg cycles) = Asks k
way_of (Answer (origin.Canister caller n context callback) sender response refund) = Answers caller n
way_of (Answer (origin.Ingress k) sender response refund) = Asks k

-- the one that is looked for comes first
abbrev pub equal_ways : Way → Way → Bool
equal_ways (Calls sender callee) (Calls other another) = at sender other && at callee another
equal_ways (Asks k) (Asks l) = k == l
equal_ways (Answers caller n) (Answers other m) = at caller other && (n == m)
equal_ways way other = false

abbrev pub is_on : Way → Message → Bool
is_on way m = equal_ways way (way_of m)

-- ---- what may come next

-- there is a message at this place, and no earlier one goes its way
abbrev pub MayComeNext : State → (place : ℕ) → Type 0
MayComeNext s place = MatchOption (slice_get s.messages place) ⊥ (λ m. list_any (is_on (way_of m)) (take place s.messages) ≡ false)

-- the same as a test, in a list of messages
abbrev pub leads : List Message → Option Message → Bool
leads earlier None = false
leads earlier (Some m) = not (list_any (is_on (way_of m)) earlier)

abbrev pub may_come : List Message → (place : ℕ) → Bool
may_come messages place = leads (take place messages) (slice_get messages place)

-- the places of all messages that may come next, from the front
abbrev pub next_places : List Message → List ℕ
next_places messages = filter (may_come messages) (range_with_len 0 (length messages))

-- ---- runs

-- each message that is delivered may come next: these runs have every order that the specification allows
abbrev pub IsOrderedRun : Rules → List Act → Type 0
IsOrderedRun rules acts = AreAllowed MayComeNext rules empty acts
