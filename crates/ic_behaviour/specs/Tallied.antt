-- A form of `Sound` for proofs, which says the same (`sound_by_totals`) in totals of weights: what a move changes is then a sum. No standard has it.
use Rattle.std.specs.Prelude.{◌≡◌, ℕ, ◌+◌, ◌-◌, ◌<◌, ◌≤◌, ◌^◌, nat_lt, Bool, true, false, not, ◌&&◌, List, length}
use Rattle.std.specs.List.{AllByRecursion}
use Rattle.std.specs.List.Sorted.{IsStrictlySortedBy}
use Rattle.std.specs.Map.{keys_of}
use Rattle.std.specs.Ordering.{nat_cmp}
use Rattle.std.specs.Cmp.Lexicographic.{slice_cmp}
use Rattle.ic_behaviour.specs.declared.call.CallId.{CallId}
use Rattle.ic_behaviour.specs.declared.call.CallId.TheVariants as call_id
use Rattle.ic_behaviour.specs.declared.call.Origin.{Origin}
use Rattle.ic_behaviour.specs.declared.call.Origin.TheVariants as origin
use Rattle.ic_behaviour.specs.declared.request.Request.{Request}
use Rattle.ic_behaviour.specs.Totals.{total, one, when}
use Rattle.ic_behaviour.specs.State.{same_id, id_of, Canister, State}
use Rattle.ic_behaviour.specs.Items.{Item, InCall, InAnswer, InContext, InWaiter, items, mentions, awaited, is_context, begins, calls_of, places, held, Given}
use Rattle.ic_behaviour.specs.Sound.{IsNamed, HasCode, IsInPhase}

-- ---- weights of what must not be

-- 1 for a context whose id is not that of its origin
abbrev pub wrong_id : Item → ℕ
wrong_id (InCall from cycles) = 0
wrong_id (InAnswer from refund) = 0
wrong_id (InContext key x) = one (not (same_id x.id (id_of x.origin)))
wrong_id (InWaiter key w) = 0

abbrev pub is_ingress : Origin → Bool
is_ingress (origin.Ingress k) = true
is_ingress (origin.Canister caller n context callback) = false

-- 1 for an answer to a user
abbrev pub lost_answer : Item → ℕ
lost_answer (InCall from cycles) = 0
lost_answer (InAnswer from refund) = one (is_ingress from)
lost_answer (InContext key x) = 0
lost_answer (InWaiter key w) = 0

-- the cycles of a context that need not respond, and 1 more for one that is deleted and must
abbrev pub wrong_flags : Item → ℕ
wrong_flags (InCall from cycles) = 0
wrong_flags (InAnswer from refund) = 0
wrong_flags (InContext key x) = when (not x.must_respond) x.available + one (x.deleted && x.must_respond)
wrong_flags (InWaiter key w) = 0

-- the cycles that the call of a user carries
abbrev pub ingress_cycles : Item → ℕ
ingress_cycles (InCall from cycles) = when (is_ingress from) cycles
ingress_cycles (InAnswer from refund) = when (is_ingress from) refund
ingress_cycles (InContext key x) = when (is_ingress x.origin) x.available
ingress_cycles (InWaiter key w) = when (is_ingress w.origin) w.cycles

abbrev pub is_below : (CallId → ℕ) → CallId → Origin → Bool
is_below rank id (origin.Ingress k) = true
is_below rank id (origin.Canister caller n context callback) = nat_lt (rank context) (rank id)

-- 1 for a context that must respond and does not rank above the one that its origin names
abbrev pub misranked : (CallId → ℕ) → Item → ℕ
misranked rank (InCall from cycles) = 0
misranked rank (InAnswer from refund) = 0
misranked rank (InContext key x) = one (x.must_respond && not (is_below rank x.id x.origin))
misranked rank (InWaiter key w) = 0

abbrev pub Ranked : State → Type 0
Ranked s = (rank : CallId → ℕ) × (total (misranked rank) (items s) ≡ 0)

-- ---- the whole

pub record IsEntry (next : ℕ) (e : List ℕ × Canister) : Type 0 where
  pub own_id : e.1.id ≡ e.0
  pub named : IsNamed next e.0
  pub has_code : HasCode e.1.code e.1.contexts
  pub in_phase : IsInPhase e.1.phase e.1.contexts

pub record Tallied (s : State) : Type 0 where
  pub one_place : (id : CallId) → places s id ≤ 1
  pub asked : (k : ℕ) → k < length s.requests → places s (call_id.Ingress k) ≡ 1
  pub given : (id : CallId) → 0 < total (mentions id) (items s) → Given s id
  pub names : (key : List ℕ) (id : CallId) → 0 < total (awaited key id) (items s) → 0 < total (is_context key id) (items s)
  pub ids : total wrong_id (items s) ≡ 0
  pub begun : (id : CallId) → total (begins id) (items s) ≤ 1
  pub arrives : total lost_answer (items s) ≡ 0
  pub rises : IsStrictlySortedBy (slice_cmp nat_cmp) (keys_of s.canisters)
  pub entries : AllByRecursion (IsEntry s.next_canister) s.canisters
  pub awaits : (key : List ℕ) (id : CallId) → 0 < total (is_context key id) (items s) → 0 < total (awaited key id) (items s)
  pub flags : total wrong_flags (items s) ≡ 0
  pub ranked : Ranked s
  pub free : total ingress_cycles (items s) ≡ 0
  pub few : AllByRecursion (λ (e : List ℕ × Canister). total (calls_of e.0) (items s) ≤ 500) s.canisters
  pub conserved : s.created ≡ held s + s.burned
  pub created : s.created ≤ 2 ^ 127 - 1
  pub canisters : length s.canisters ≤ 64
  pub requests : length s.requests ≤ 2 ^ 20
  pub time : s.time ≤ 9223372036854775807
  pub times : AllByRecursion (λ (r : Request). r.time ≤ s.time) s.requests
