-- Where calls, cycles and call contexts are, and how they are counted (IC Interface Specification, "Abstract state").
use Rattle.std.specs.Prelude.{◌≡◌, ℕ, ◌+◌, ◌<◌, ◌^◌, Bool, true, false, ◌&&◌, cond, List, [], ◌++◌, Option, Some, None, is_some, slice_get, length, map}
use Rattle.std.specs.List.{flat_map, AllByRecursion}
use Rattle.ic_principal.specs.CanisterId.{canister_id_of}
use Rattle.ic_behaviour.specs.declared.call.CallId.{CallId}
use Rattle.ic_behaviour.specs.declared.call.CallId.TheVariants as call_id
use Rattle.ic_behaviour.specs.declared.call.Origin.{Origin}
use Rattle.ic_behaviour.specs.declared.call.Origin.TheVariants as origin
use Rattle.ic_behaviour.specs.declared.call.Message.{Message}
use Rattle.ic_behaviour.specs.declared.call.Message.TheVariants.{Call, Answer}
use Rattle.ic_behaviour.specs.declared.phase.Waiter.{Waiter}
use Rattle.ic_behaviour.specs.declared.request.Request.{Request}
use Rattle.ic_behaviour.specs.Totals.{total, one}
use Rattle.ic_behaviour.specs.State.{at, same_id, id_of, CallContext, Canister, waiting, State}

-- ---- items

-- what bears a call, or cycles: a call or an answer under way, a call context, a call that waits for a canister to stop
pub data Item : Type 0 where
  InCall : Origin → (cycles : ℕ) → Item
  InAnswer : Origin → (refund : ℕ) → Item
  InContext : (canister : List ℕ) → CallContext → Item
  InWaiter : (canister : List ℕ) → Waiter → Item

abbrev pub item_of : Message → Item
item_of (Call from sender callee method arg cycles) = InCall from cycles
item_of (Answer from sender response refund) = InAnswer from refund

abbrev pub items_at : List ℕ × Canister → List Item
items_at e = map (InContext e.0) e.1.contexts ++ map (InWaiter e.0) (waiting e.1.phase)

abbrev pub items : State → List Item
items s = map item_of s.messages ++ flat_map items_at s.canisters

-- ---- calls

-- the call that has its place here; a context that has answered is no place
abbrev pub open_at : Item → Option Origin
open_at (InCall from cycles) = Some from
open_at (InAnswer from refund) = Some from
open_at (InContext key x) = cond x.must_respond (Some x.origin) None
open_at (InWaiter key w) = Some w.origin

abbrev pub counted_at : (Origin → Bool) → Option Origin → ℕ
counted_at test None = 0
counted_at test (Some from) = one (test from)

abbrev pub is_id : CallId → Origin → Bool
is_id id from = same_id id (id_of from)

-- 1 where the item is a place of this call
abbrev pub bears : CallId → Item → ℕ
bears id item = counted_at (is_id id) (open_at item)

abbrev pub is_answered : Option Request → Bool
is_answered None = false
is_answered (Some request) = is_some request.answer

-- 1 where it is the call of a request that is answered
abbrev pub answered : List Request → CallId → ℕ
answered requests (call_id.Ingress k) = one (is_answered (slice_get requests k))
answered requests (call_id.Canister caller n) = 0

-- how many places a call has; an answered request is one
abbrev pub places : State → CallId → ℕ
places s id = total (bears id) (items s) + answered s.requests id

-- ---- calls that a context awaits

abbrev pub is_from : List ℕ → CallId → Origin → Bool
is_from key id (origin.Ingress k) = false
is_from key id (origin.Canister caller n context callback) = at caller key && same_id context id

-- 1 where the item is a place of a call that was made in this context of this canister
abbrev pub awaited : List ℕ → CallId → Item → ℕ
awaited key id item = counted_at (is_from key id) (open_at item)

-- how many calls of a context have no answer yet
abbrev pub outstanding : State → List ℕ → CallId → ℕ
outstanding s key id = total (awaited key id) (items s)

abbrev pub is_from_canister : List ℕ → Origin → Bool
is_from_canister key (origin.Ingress k) = false
is_from_canister key (origin.Canister caller n context callback) = at caller key

-- 1 where the item is a place of a call of this canister
abbrev pub calls_of : List ℕ → Item → ℕ
calls_of key item = counted_at (is_from_canister key) (open_at item)

-- ---- contexts, and ids

-- 1 where the item is this context of this canister
abbrev pub is_context : List ℕ → CallId → Item → ℕ
is_context key id (InCall from cycles) = 0
is_context key id (InAnswer from refund) = 0
is_context key id (InContext other x) = one (at key other && same_id id x.id)
is_context key id (InWaiter other w) = 0

-- 1 where the item is a context of this id, or a call that may make one
abbrev pub begins : CallId → Item → ℕ
begins id (InCall from cycles) = one (same_id id (id_of from))
begins id (InAnswer from refund) = 0
begins id (InContext key x) = one (same_id id x.id)
begins id (InWaiter key w) = 0

-- how often the item names this call, as its origin's or as a context's
abbrev pub mentions : CallId → Item → ℕ
mentions id (InCall from cycles) = one (same_id id (id_of from))
mentions id (InAnswer from refund) = one (same_id id (id_of from))
mentions id (InContext key x) = one (same_id id x.id) + one (same_id id (id_of x.origin))
mentions id (InWaiter key w) = one (same_id id (id_of w.origin))

-- a call of this number of the caller was made, where the caller is there
abbrev pub HasNext : List ℕ → ℕ → List (List ℕ × Canister) → Type 0
HasNext caller n = AllByRecursion (λ e. at caller e.0 ≡ true → n < e.1.next_call)

-- the caller's id was given to a canister, if it is one that canisters are given
abbrev pub IsOfOlder : List ℕ → ℕ → Type 0
IsOfOlder caller next = (k : ℕ) → k < 2 ^ 64 → caller ≡ canister_id_of k → k < next

-- the call was made: its number is below the next one
abbrev pub Given : State → CallId → Type 0
Given s (call_id.Ingress k) = k < length s.requests
Given s (call_id.Canister caller n) = HasNext caller n s.canisters × IsOfOlder caller s.next_canister

-- ---- cycles

abbrev pub cycles_in : Item → ℕ
cycles_in (InCall from cycles) = cycles
cycles_in (InAnswer from refund) = refund
cycles_in (InContext key x) = x.available
cycles_in (InWaiter key w) = w.cycles

-- the cycles that are there: balances, and what calls, answers, contexts and waiting calls carry
abbrev pub held : State → ℕ
held s = total (λ (e : List ℕ × Canister). e.1.balance) s.canisters + total cycles_in (items s)

-- ---- the end

-- no message is under way, and no call waits for a canister to stop
pub record Drained (s : State) : Type 0 where
  pub messages : s.messages ≡ []
  pub waiters : AllByRecursion (λ (e : List ℕ × Canister). waiting e.1.phase ≡ []) s.canisters
