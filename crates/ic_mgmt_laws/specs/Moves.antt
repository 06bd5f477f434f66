-- What the management canister does to a state, in moves of which each method is a chain (IC Interface Specification, "The IC management canister").
use Rattle.std.specs.Prelude.{ℕ, ◌+◌, true, false, List, [], ◌∷◌, ◌++◌, None, map, cond}
use Rattle.std.specs.List.{flat_map, fold}
use Rattle.std.specs.Map.{set_value, remove_entry}
use Rattle.ic_behaviour.specs.declared.call.Response.{Response}
use Rattle.ic_behaviour.specs.declared.call.Message.{Message}
use Rattle.ic_behaviour.specs.declared.call.Message.TheVariants.{Call}
use Rattle.ic_behaviour.specs.declared.call.Answered.{Answered}
use Rattle.ic_behaviour.specs.declared.call.IncomingCall.{IncomingCall}
use Rattle.ic_behaviour.specs.declared.phase.Waiter.{Waiter}
use Rattle.ic_behaviour.specs.declared.phase.Phase.TheVariants.{Running, Stopping}
use Rattle.ic_behaviour.specs.State.{at, CallContext, Canister, waiting, State}
use Rattle.ic_behaviour.specs.Counted.{counted, dropped}
use Rattle.ic_behaviour.specs.Closing.{closed, closing}
use Rattle.ic_behaviour.specs.Deliver.{filled, routed, answered_by}
use Rattle.ic_state.specs.IsCanister.{no_lists}

-- as a message, to the management canister by whatever principal names it
abbrev pub message_of : IncomingCall → (callee : List ℕ) → Message
message_of call callee = Call call.origin call.sender callee call.method call.arg call.cycles

-- the state that still has the call; the numbers that canisters store are those of this state
abbrev pub with_call : IncomingCall → State → State
with_call call s = record s { messages = message_of call [] ∷ s.messages }

-- ---- canisters

-- the canister with this id is c
abbrev pub with_canister : (id : List ℕ) → Canister → State → State
with_canister id c s = record s { canisters = set_value (at id) s.canisters c }

abbrev pub with_balance : ℕ → Canister → Canister
with_balance n c = record c { balance = n }

-- cycles are created in its balance
abbrev pub granted : (id : List ℕ) → Canister → (amount : ℕ) → State → State
granted id c amount s = record s { canisters = set_value (at id) s.canisters (with_balance (c.balance + amount) c); created = s.created + amount }

-- it goes, and its balance is burned
abbrev pub gone : (id : List ℕ) → Canister → State → State
gone id c s = record s { canisters = remove_entry (at id) s.canisters; burned = s.burned + c.balance }

-- ---- answers

-- the call is answered by the management canister, which has no bytes, and this many of its cycles go back
abbrev pub answered : IncomingCall → Response → (refund : ℕ) → State → State
answered call response refund s = answered_by [] (record { origin = call.origin; response = response; refund = refund }) s

-- all its cycles go back
abbrev pub replied : IncomingCall → Response → State → State
replied call response s = answered call response call.cycles s

-- its cycles go to the balance of a canister
abbrev pub kept_by : (id : List ℕ) → Canister → IncomingCall → Response → State → State
kept_by id c call response s = answered call response 0 (with_canister id (with_balance (c.balance + call.cycles) c) s)

-- a canister answers, in this order
abbrev pub all_answered : (sender : List ℕ) → List Answered → State → State
all_answered sender answers s = record s { messages = s.messages ++ flat_map (routed sender) answers; requests = fold filled s.requests answers }

-- ---- calls that wait for a canister to stop

abbrev pub waiter_of : IncomingCall → Waiter
waiter_of call = record { origin = call.origin; cycles = call.cycles }

-- the call waits after those that wait already
abbrev pub awaiting : IncomingCall → Canister → Canister
awaiting call c = record c { phase = Stopping (waiting c.phase ++ waiter_of call ∷ []) }

abbrev pub running : Canister → Canister
running c = record c { phase = Running }

-- every waiter is told the same, and its cycles go back
abbrev pub to_waiter : Response → Waiter → Answered
to_waiter response w = record { origin = w.origin; response = response; refund = w.cycles }

-- ---- contexts

-- a context that must respond does so with all its cycles
abbrev pub to_context : Response → CallContext → List Answered
to_context response x = cond x.must_respond ((record { origin = x.origin; response = response; refund = x.available }) ∷ []) []

-- it need not respond any more, and no callback runs in it
abbrev pub deleted : CallContext → CallContext
deleted x = record x { must_respond = false; deleted = true; available = 0 }

-- without code, memory and certified data
abbrev pub emptied : Canister → Canister
emptied c = record c { code = None; store = no_lists; certified = []; contexts = map deleted c.contexts }

-- contexts that await no call are closed, and a stopping canister without contexts stops; no message is handled, and now is
-- the state whose counts it takes
abbrev pub shut : (now : State) → (id : List ℕ) → Canister → State → State
shut now id c s = all_answered id (closing None (counted now id c)) (with_canister id (dropped (closed (counted now id c))) s)
