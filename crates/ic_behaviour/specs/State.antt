-- The state that messages change (IC Interface Specification, "Abstract state").
use Rattle.std.specs.Prelude.{ℕ, ◌==◌, Bool, true, false, ◌&&◌, List, [], ◌∷◌, Option}
use Rattle.std.specs.BTreeMap.{is_at}
use Rattle.std.specs.Ordering.{nat_cmp}
use Rattle.std.specs.Cmp.Lexicographic.{slice_cmp}
use Rattle.wm_tree.specs.declared.parts.Module.{Module}
use Rattle.wm_store.specs.Lists.{Lists}
use Rattle.ic_behaviour.specs.declared.call.CallId.{CallId}
use Rattle.ic_behaviour.specs.declared.call.CallId.TheVariants as call_id
use Rattle.ic_behaviour.specs.declared.call.Origin.{Origin}
use Rattle.ic_behaviour.specs.declared.call.Origin.TheVariants as origin
use Rattle.ic_behaviour.specs.declared.call.Message.{Message}
use Rattle.ic_behaviour.specs.declared.call.Message.TheVariants.{Call, Answer}
use Rattle.ic_behaviour.specs.declared.phase.Waiter.{Waiter}
use Rattle.ic_behaviour.specs.declared.phase.Phase.{Phase}
use Rattle.ic_behaviour.specs.declared.phase.Phase.TheVariants.{Running, Stopping, Stopped}
use Rattle.ic_behaviour.specs.declared.request.Request.{Request}

-- ---- canisters

-- a call context; how many of its calls have no answer yet is counted over the state
pub record CallContext : Type 0 where
  pub id : CallId
  pub origin : Origin
  pub caller : List ℕ
  pub must_respond : Bool
  pub deleted : Bool
  pub available : ℕ

-- the module that a canister runs, and the hash of its bytes
pub record Code : Type 0 where
  pub «module» : Module
  pub hash : List ℕ

-- contexts are in the order in which they were made
pub record Canister : Type 0 where
  pub id : List ℕ
  pub controllers : List (List ℕ)
  pub balance : ℕ
  pub code : Option Code
  pub store : Lists
  pub certified : List ℕ
  pub contexts : List CallContext
  pub phase : Phase
  pub next_call : ℕ

abbrev pub waiting : Phase → List Waiter
waiting Running = []
waiting (Stopping waiters) = waiters
waiting Stopped = []

abbrev pub is_awaited : Phase → Bool
is_awaited (Stopping (w ∷ waiters)) = true
is_awaited phase = false

-- ---- the state

-- canisters are under their ids, which rise; a request's number is its place
pub record State : Type 0 where
  pub canisters : List (List ℕ × Canister)
  pub messages : List Message
  pub requests : List Request
  pub time : ℕ
  pub created : ℕ
  pub burned : ℕ
  pub next_canister : ℕ

-- ---- names

-- whether a principal is this one, as a map looks it up
abbrev pub at : List ℕ → List ℕ → Bool
at key = is_at (slice_cmp nat_cmp key)

-- the one that is looked for comes first
abbrev pub same_id : CallId → CallId → Bool
same_id (call_id.Ingress k) (call_id.Ingress l) = k == l
same_id (call_id.Ingress k) (call_id.Canister caller n) = false
same_id (call_id.Canister caller n) (call_id.Ingress k) = false
same_id (call_id.Canister caller n) (call_id.Canister other m) = at caller other && (n == m)

-- the id of the call that comes from this origin
abbrev pub id_of : Origin → CallId
id_of (origin.Ingress k) = call_id.Ingress k
id_of (origin.Canister caller n context callback) = call_id.Canister caller n

-- the caller; a user, whose answers go into the request, has no bytes
abbrev pub caller_of : Origin → List ℕ
caller_of (origin.Ingress k) = []
caller_of (origin.Canister caller n context callback) = caller

-- A call goes to its callee, an answer to the caller. An answer to a user would go to the management canister, which has no
-- bytes either; no sound state has one.
abbrev pub callee_of : Message → List ℕ
callee_of (Call from sender callee method arg cycles) = callee
callee_of (Answer from sender response refund) = caller_of from
