-- A message is delivered (IC Interface Specification, "Message execution" and "Respond to user request").
use Rattle.std.specs.Prelude.{ℕ, zero, suc, ◌+◌, Bool, cond, List, [], ◌∷◌, ◌++◌, Option, Some, None, slice_get}
use Rattle.std.specs.List.{remove, flat_map, fold}
use Rattle.std.specs.Map.{lookup, set_value}
use Rattle.ic_behaviour.specs.declared.call.Origin.{Origin}
use Rattle.ic_behaviour.specs.declared.call.Origin.TheVariants as origin
use Rattle.ic_behaviour.specs.declared.call.Response.{Response}
use Rattle.ic_behaviour.specs.declared.call.Message.{Message}
use Rattle.ic_behaviour.specs.declared.call.Message.TheVariants.{Call, Answer}
use Rattle.ic_behaviour.specs.declared.call.Answered.{Answered}
use Rattle.ic_behaviour.specs.declared.request.Request.{Request}
use Rattle.ic_behaviour.specs.declared.env.Env.{Env}
use Rattle.ic_behaviour.specs.State.{at, callee_of, Canister, State}
use Rattle.ic_behaviour.specs.Counted.{counted, dropped}
use Rattle.ic_behaviour.specs.Texts.{no_canister}
use Rattle.ic_behaviour.specs.Outcomes.{Enters}
use Rattle.ic_behaviour.specs.Closing.{Handled}
use Rattle.ic_behaviour.specs.Local.{local}

-- ---- answers: one to a user goes into the request, every other is a message

abbrev pub fill : ℕ → Response → List Request → List Request
fill k response [] = []
fill zero response (r ∷ rs) = record r { answer = Some response } ∷ rs
fill (suc k) response (r ∷ rs) = r ∷ fill k response rs

abbrev pub filled_by : Origin → Response → List Request → List Request
filled_by (origin.Ingress k) response rs = fill k response rs
filled_by (origin.Canister caller n context callback) response rs = rs

abbrev pub filled : List Request → Answered → List Request
filled rs a = filled_by a.origin a.response rs

abbrev pub routed_by : (sender : List ℕ) → Origin → Response → (refund : ℕ) → List Message
routed_by sender (origin.Ingress k) response refund = []
routed_by sender (origin.Canister caller n context callback) response refund = Answer (origin.Canister caller n context callback) sender response refund ∷ []

abbrev pub routed : (sender : List ℕ) → Answered → List Message
routed sender a = routed_by sender a.origin a.response a.refund

abbrev pub answered_by : (sender : List ℕ) → Answered → State → State
answered_by sender a s = record s { messages = s.messages ++ routed sender a; requests = filled s.requests a }

-- ---- a message to a canister

-- the calls come last, and then the answers
abbrev pub placed : State → List ℕ → Handled → State
placed s key h = record s {
  canisters = set_value (at key) s.canisters (dropped h.canister);
  messages = s.messages ++ h.calls ++ flat_map (routed key) h.answers;
  requests = fold filled s.requests h.answers;
  burned = s.burned + h.burned;
}

abbrev pub env_at : ℕ → (limit price : ℕ) → Env
env_at time limit price = record { time = time; limit = limit; price = price }

-- ---- a message to no canister

-- what delivers a call to the management canister: it takes the limit, the state without the call, and the call
abbrev pub Outside : Type 0
Outside = (limit : ℕ) → State → Message → State

-- the management canister has no bytes
abbrev pub is_management : List ℕ → Bool
is_management callee = at [] callee

abbrev pub sent_back : Origin → (callee : List ℕ) → (cycles : ℕ) → State → State
sent_back from callee cycles s = answered_by callee (record { origin = from; response = no_canister callee; refund = cycles }) s

-- No canister has the callee's id: all cycles of a call go back. An answer is dropped, but no sound state has one whose
-- caller is not there.
abbrev pub handled_outside : Outside → (limit : ℕ) → State → Message → State
handled_outside outside limit s (Call from sender callee method arg cycles) =
    cond (is_management callee) (outside limit s (Call from sender callee method arg cycles)) (sent_back from callee cycles s)
handled_outside outside limit s (Answer from sender response refund) = s

-- as long as there is no management canister
abbrev pub as_absent : Outside
as_absent limit s (Call from sender callee method arg cycles) = sent_back from callee cycles s
as_absent limit s (Answer from sender response refund) = s

-- ---- the whole

-- the counts are those of the state with the message
abbrev pub handled_by : Enters → Outside → (limit price : ℕ) → (before : State) → State → Message → Option Canister → State
handled_by enters outside limit price before s m None = handled_outside outside limit s m
handled_by enters outside limit price before s m (Some c) = placed s (callee_of m) (local enters (env_at s.time limit price) (counted before (callee_of m) c) m)

abbrev pub without : State → ℕ → State
without s place = record s { messages = remove s.messages place }

abbrev pub delivered : Enters → Outside → (limit price : ℕ) → State → ℕ → Option Message → State
delivered enters outside limit price s place None = s
delivered enters outside limit price s place (Some m) =
    handled_by enters outside limit price s (without s place) m (lookup (at (callee_of m)) s.canisters)

-- the message at a place leaves the list and is handled
unfoldable pub deliver : Enters → Outside → (limit price : ℕ) → State → (place : ℕ) → State
deliver enters outside limit price s place = delivered enters outside limit price s place (slice_get s.messages place)
