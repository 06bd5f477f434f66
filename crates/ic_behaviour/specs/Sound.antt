-- What every state keeps (IC Interface Specification, "Invariants").
use Rattle.std.specs.Prelude.{◌≡◌, ℕ, ◌+◌, ◌-◌, ◌<◌, ◌≤◌, ◌^◌, true, false, List, [], Option, length}
use Rattle.std.specs.List.{AllByRecursion, position_or_len}
use Rattle.std.specs.List.Sorted.{IsStrictlySortedBy}
use Rattle.std.specs.Option.{IsSome}
use Rattle.std.specs.Map.{keys_of}
use Rattle.std.specs.Ordering.{nat_cmp}
use Rattle.std.specs.Cmp.Lexicographic.{slice_cmp}
use Rattle.ic_principal.specs.CanisterId.{canister_id_of}
use Rattle.ic_behaviour.specs.declared.call.CallId.{CallId}
use Rattle.ic_behaviour.specs.declared.call.CallId.TheVariants as call_id
use Rattle.ic_behaviour.specs.declared.call.Origin.{Origin}
use Rattle.ic_behaviour.specs.declared.call.Origin.TheVariants as origin
use Rattle.ic_behaviour.specs.declared.phase.Phase.{Phase}
use Rattle.ic_behaviour.specs.declared.phase.Phase.TheVariants.{Running, Stopping, Stopped}
use Rattle.ic_behaviour.specs.declared.request.Request.{Request}
use Rattle.ic_behaviour.specs.Totals.{total, one}
use Rattle.ic_behaviour.specs.State.{same_id, id_of, CallContext, Code, Canister, State}
use Rattle.ic_behaviour.specs.Items.{Item, InCall, InAnswer, InContext, InWaiter, items, mentions, is_context, begins, calls_of, places, outstanding, held, Given}

abbrev pub Each : (Item → Type 0) → State → Type 0
Each P s = AllByRecursion P (items s)

abbrev pub EachCanister : (List ℕ × Canister → Type 0) → State → Type 0
EachCanister P s = AllByRecursion P s.canisters

-- the canister has a context of this id
abbrev pub Stands : State → List ℕ → CallId → Type 0
Stands s key id = 0 < total (is_context key id) (items s)

-- ---- 1 calls

pub record CallsStandOnce (s : State) : Type 0 where
  pub one_place : (id : CallId) → places s id ≤ 1
  -- the call of a request is under way, or answered
  pub asked : (k : ℕ) → k < length s.requests → places s (call_id.Ingress k) ≡ 1
  -- what is named was made
  pub given : (id : CallId) → 0 < total (mentions id) (items s) → Given s id

-- ---- 2 names

abbrev pub HasOwnId : Item → Type 0
HasOwnId (InContext key x) = x.id ≡ id_of x.origin
HasOwnId _ = Unit {0}

abbrev pub IsToCanister : Item → Type 0
IsToCanister (InAnswer (origin.Ingress k) refund) = ⊥
IsToCanister _ = Unit {0}

-- the id of a canister that was made
abbrev pub IsNamed : ℕ → List ℕ → Type 0
IsNamed next key = (k : ℕ) × (k < next) × (k < 2 ^ 64) × (key ≡ canister_id_of k)

pub record NamesStand (s : State) : Type 0 where
  -- a call without answer names a context that is there
  pub names : (key : List ℕ) (id : CallId) → 0 < outstanding s key id → Stands s key id
  pub own_ids : Each HasOwnId s
  -- no two contexts have the same id, and no call that may make one has the id of a context
  pub begun : (id : CallId) → total (begins id) (items s) ≤ 1
  pub answers : Each IsToCanister s
  -- canisters are under their ids, which rise
  pub rises : IsStrictlySortedBy (slice_cmp nat_cmp) (keys_of s.canisters)
  pub keys : EachCanister (λ e. e.1.id ≡ e.0) s
  pub named : EachCanister (λ e. IsNamed s.next_canister e.0) s

-- ---- 3 contexts

abbrev pub HasFlags : Item → Type 0
HasFlags (InContext key x) = (x.must_respond ≡ false → x.available ≡ 0) × (x.deleted ≡ true → x.must_respond ≡ false)
HasFlags _ = Unit {0}

-- a context that is not deleted is only where there is code
abbrev pub HasCode : Option Code → List CallContext → Type 0
HasCode code contexts = AllByRecursion (λ (x : CallContext). x.deleted ≡ false → IsSome code) contexts

pub record ContextsAwait (s : State) : Type 0 where
  pub awaits : (key : List ℕ) (id : CallId) → Stands s key id → 0 < outstanding s key id
  pub flags : Each HasFlags s
  pub code : EachCanister (λ e. HasCode e.1.code e.1.contexts) s

-- ---- 4 phases

-- a stopping canister has a context, and a stopped one has none
abbrev pub IsInPhase : Phase → List CallContext → Type 0
IsInPhase Running contexts = Unit {0}
IsInPhase (Stopping waiters) contexts = 0 < length contexts
IsInPhase Stopped contexts = contexts ≡ []

-- ---- 5 no calls in a circle

abbrev pub place_in : List CallId → CallId → ℕ
place_in list id = position_or_len (same_id id) list

abbrev pub IsBehind : List CallId → CallId → Origin → Type 0
IsBehind list id (origin.Ingress k) = Unit {0}
IsBehind list id (origin.Canister caller n context callback) = place_in list context < place_in list id

abbrev pub StandsBehind : List CallId → Item → Type 0
StandsBehind list (InContext key x) = x.must_respond ≡ true → IsBehind list x.id x.origin
StandsBehind list _ = Unit {0}

-- each context is in the list, once, and each one that must respond to a canister comes after the one that its
-- origin names
pub record IsListing (s : State) (list : List CallId) : Type 0 where
  pub complete : (key : List ℕ) (id : CallId) → Stands s key id → 0 < total (λ i. one (same_id id i)) list
  pub once : (id : CallId) → total (λ i. one (same_id id i)) list ≤ 1
  pub behind : Each (StandsBehind list) s

-- ---- 6 users and limits

abbrev pub IsFreeFrom : Origin → ℕ → Type 0
IsFreeFrom (origin.Ingress k) cycles = cycles ≡ 0
IsFreeFrom (origin.Canister caller n context callback) cycles = Unit {0}

-- the calls of users carry no cycles
abbrev pub IsFree : Item → Type 0
IsFree (InCall from cycles) = IsFreeFrom from cycles
IsFree (InAnswer from refund) = IsFreeFrom from refund
IsFree (InContext key x) = IsFreeFrom x.origin x.available
IsFree (InWaiter key w) = IsFreeFrom w.origin w.cycles

pub record KeepsLimits (s : State) : Type 0 where
  pub free : Each IsFree s
  -- calls of a canister that have no answer yet
  pub few : EachCanister (λ e. total (calls_of e.0) (items s) ≤ 500) s

-- ---- 7 cycles

pub record KeepsCycles (s : State) : Type 0 where
  pub conserved : s.created ≡ held s + s.burned
  pub created : s.created ≤ 2 ^ 127 - 1

-- ---- 8 sizes

pub record KeepsSizes (s : State) : Type 0 where
  pub canisters : length s.canisters ≤ 64
  pub requests : length s.requests ≤ 2 ^ 20
  pub time : s.time ≤ 9223372036854775807
  pub times : AllByRecursion (λ (r : Request). r.time ≤ s.time) s.requests

-- ---- the whole

pub record Sound (s : State) : Type 0 where
  pub calls : CallsStandOnce s
  pub names : NamesStand s
  pub contexts : ContextsAwait s
  pub phases : EachCanister (λ e. IsInPhase e.1.phase e.1.contexts) s
  pub listed : (list : List CallId) × IsListing s list
  pub limits : KeepsLimits s
  pub cycles : KeepsCycles s
  pub sizes : KeepsSizes s
