-- A canister is made, gets cycles, or goes.
use Rattle.std.proofs.Common.{◌≡◌, ℕ, ◌+◌, ◌-◌, ◌≤◌, ◌^◌, Bool, true, false, List, [], ◌∷◌, map, Option, Some, None, refl, sym, ap, ap₂, ◌∙◌, subst, arith}
use Rattle.std.specs.Prelude.{Result, Ok, is_some, nat_le}
use Rattle.std.specs.List.{AllByRecursion}
use Rattle.std.specs.List.Sorted.{IsStrictlySortedBy}
use Rattle.std.specs.Map.{lookup, set_value, remove_entry}
use Rattle.std.specs.BTreeMap.{BTreeMap, insert_entry}
use Rattle.std.specs.Ordering.{nat_cmp}
use Rattle.std.specs.Cmp.Lexicographic.{slice_cmp}
use Rattle.ic_principal.specs.CanisterId.{canister_id_of}
use Rattle.ic_behaviour.specs.declared.call.Response.{Response}
use Rattle.ic_behaviour.specs.declared.call.Response.TheVariants.{Reply}
use Rattle.ic_behaviour.specs.State.{at, Canister, State}
use Rattle.ic_behaviour.specs.Counted.{counted, dropped}
use Rattle.ic_behaviour.specs.Closing.{empty_reply}
use Rattle.ic_state.proofs.Worlds.{added_entries}
use Rattle.ic_state.specs.declared.canister.Canister.{Canister as StoredCanister}
use Rattle.ic_state.specs.declared.world.Parts.{Parts}
use Rattle.ic_state.specs.Seen.{seen, entry_of, state_of}
use Rattle.ic_state.specs.IsCanister.{IsCanister, created, cycles_of}
use Rattle.ic_state.specs.IsWorld.{HasCounts}
use Rattle.ic_mgmt_candid.specs.declared.denial.Denial.{Denial}
use Rattle.ic_mgmt_candid.specs.declared.denial.Denial.TheVariants as D
use Rattle.ic_mgmt_candid.specs.Checks.{◌>>=◌, unless}
use Rattle.ic_mgmt_candid.specs.Replies.{canister_reply}
use Rattle.ic_calls.proofs.PhaseKeeps.{renewed_keeps}
use Rattle.ic_mgmt_laws.specs.Moves.{with_balance, granted, gone, answered, replied, kept_by}
use Rattle.ic_behaviour.specs.declared.call.IncomingCall.{IncomingCall}
use Rattle.ic_mgmt_laws.specs.Rows.{controllers_or, unless_full, unless_above, next_canister, creates, tops_up, unless_stopped, deletes}
use Rattle.ic_behaviour.specs.Submitted.{added}
use Rattle.ic_mgmt.specs.declared.ending.Ending.{Ending}
use Rattle.ic_mgmt.specs.Taken.{AreCanisters, HasRoom, HoldsCycles}
use Rattle.ic_mgmt.specs.Ending.{ended_by, Keeps}
use Rattle.ic_mgmt.proofs.Numbers.{same_true}
use Rattle.ic_mgmt.proofs.Worlds.{is_canister, keeps_set}
use Rattle.ic_mgmt.proofs.Entries.{found_each, each_insert, each_remove, set_insert, seen_set, seen_remove}
use Rattle.ic_mgmt.proofs.Sends.{only, answers_only}

-- ---- a new canister in the parts

module _ (p : Parts) (m : BTreeMap (List ℕ) StoredCanister) (c : StoredCanister) (controllers : List (List ℕ)) (balance : ℕ) (id : List ℕ)
    (is_id : id ≡ canister_id_of p.next_canister) (is : seen c ≡ created id controllers balance) (made : m.entries ≡ insert_entry (slice_cmp nat_cmp) p.canisters.entries id c) where
  abbrev q : Parts
  q = record p { canisters = m; next_canister = p.next_canister + 1 }

  pub state_made : state_of q ≡ record (state_of p) {
    canisters = insert_entry (slice_cmp nat_cmp) (state_of p).canisters id (next_canister (state_of p) controllers balance);
    next_canister = p.next_canister + 1;
  }
  state_made =
      ap (λ es. record (state_of q) { canisters = es })
      (added_entries p.canisters.entries m.entries id c made
      ∙ ap (λ x. insert_entry (slice_cmp nat_cmp) (state_of p).canisters id (dropped x)) (is ∙ ap (λ k. created k controllers balance) is_id))

  pub keeps_made : AreCanisters p → IsCanister c → Keeps p q
  keeps_made all keeps = record {
    canisters = subst (AllByRecursion (λ (e : List ℕ × StoredCanister). IsCanister e.1)) (sym made) (each_insert (λ e. IsCanister e.1) id p.canisters.entries c keeps all);
    counts = λ now h. subst (AllByRecursion (HasCounts now)) (sym made) (each_insert (HasCounts now) id p.canisters.entries c (subst (λ x. counted now id (dropped x) ≡ x) (sym is) refl) h);
  }

-- ---- the rows

module _ (call : IncomingCall) (s t : State) (named : Option (List (List ℕ))) (controllers : List (List ℕ)) (set : controllers_or (call.sender ∷ []) named ≡ Ok controllers) (room : unless_full s ≡ Ok tt) where
  abbrev id : List ℕ
  id = canister_id_of s.next_canister

  abbrev reply : Response
  reply = Reply (canister_reply id)

  abbrev made : (balance created : ℕ) → State
  made balance created = record s {
    canisters = insert_entry (slice_cmp nat_cmp) s.canisters id (next_canister s controllers balance);
    created = created;
    next_canister = s.next_canister + 1;
  }

  zero_more : (n : ℕ) → n + 0 ≡ n
  zero_more n = omega arith

  zero_and : (n : ℕ) → 0 + n ≡ n
  zero_and n = omega arith

  abbrev new : ℕ → Canister
  new balance = next_canister s controllers balance

  pub creates_is : (e : Ending) (k told : List ℕ) → k ≡ id
      → t ≡ record s { canisters = insert_entry (slice_cmp nat_cmp) s.canisters k (new call.cycles); next_canister = s.next_canister + 1 }
      → e ≡ only (Reply told) 0 → told ≡ canister_reply k → creates s call named ≡ Ok (ended_by call e t)
  creates_is e k told k_is t_is e_is told_is =
      let done : List (List ℕ) → Result State Denial = λ ids. Ok (kept_by id (next_canister s ids 0) call reply (added s (next_canister s ids 0))) in
      let kept : insert_entry (slice_cmp nat_cmp) s.canisters id (with_balance (0 + call.cycles) (new 0)) ≡ insert_entry (slice_cmp nat_cmp) s.canisters id (new call.cycles) =
      ap (λ n. insert_entry (slice_cmp nat_cmp) s.canisters id (with_balance n (new 0))) (zero_and call.cycles) in
      let there : t ≡ made call.cycles s.created = t_is ∙ ap (λ x. record (made call.cycles s.created) { canisters = insert_entry (slice_cmp nat_cmp) s.canisters x (new call.cycles) }) k_is in
      let says : e ≡ only reply 0 = e_is ∙ ap (λ r. only (Reply r) 0) (told_is ∙ ap canister_reply k_is) in
      ap (λ r. r >>= (λ (ids : List (List ℕ)). unless_full s >>= λ u. done ids)) set
      ∙ ap (λ r. r >>= (λ u. done controllers)) room
      ∙ ap Ok (
      ap₂ (λ es n. answered call reply 0 (record (made call.cycles n) { canisters = es })) (set_insert id s.canisters (new 0) (with_balance (0 + call.cycles) (new 0)) ∙ kept) (zero_more s.created)
      ∙ ap (answered call reply 0) (sym there)
      ∙ answers_only call e reply 0 says t
      )

pub alone : (x : List ℕ) → IsStrictlySortedBy (slice_cmp nat_cmp) (x ∷ [])
unfolding IsStrictlySortedBy
alone x = (tt, tt)

-- ---- cycles and the end of a canister

module _ (call : IncomingCall) (p : Parts) (id : List ℕ) (c : StoredCanister) (m : BTreeMap (List ℕ) StoredCanister) where
  abbrev a : Canister
  a = dropped (seen c)

  pub granted_is : (amount : ℕ) → m.entries ≡ set_value (at id) p.canisters.entries (record c { balance = c.balance + amount })
      → state_of (record p { canisters = m; created = p.created + amount }) ≡ granted id a amount (state_of p)
  granted_is amount set =
      ap (λ es. record (state_of p) { canisters = es; created = p.created + amount }) (ap (map entry_of) set ∙ seen_set id p.canisters.entries (record c { balance = c.balance + amount }))

  pub gone_is : m.entries ≡ remove_entry (at id) p.canisters.entries → state_of (record p { canisters = m; burned = p.burned + c.balance }) ≡ gone id a (state_of p)
  gone_is gone = ap (λ es. record (state_of p) { canisters = es; burned = p.burned + c.balance }) (ap (map entry_of) gone ∙ seen_remove id p.canisters.entries)

  pub tops_up_is : (amount : ℕ) (t : State) (e : Ending) → unless_above (state_of p) amount ≡ Ok tt → t ≡ granted id a amount (state_of p) → e ≡ only empty_reply call.cycles
      → tops_up (state_of p) call id amount a ≡ Ok (ended_by call e t)
  tops_up_is amount t e few t_is e_is =
      let next : Unit {0} → Result State Denial = λ u. Ok (replied call empty_reply (granted id a amount (state_of p))) in
      ap (λ r. r >>= next) few
      ∙ ap Ok (ap (replied call empty_reply) (sym t_is) ∙ answers_only call e empty_reply call.cycles e_is t)

  pub deletes_is : (t : State) (e : Ending) → unless_stopped c.phase ≡ Ok tt → t ≡ gone id a (state_of p) → e ≡ only empty_reply call.cycles → deletes (state_of p) call id a ≡ Ok (ended_by call e t)
  deletes_is t e stopped t_is e_is =
      let next : Unit {0} → Result State Denial = λ u. Ok (replied call empty_reply (gone id a (state_of p))) in
      ap (λ r. r >>= next) stopped
      ∙ ap Ok (ap (replied call empty_reply) (sym t_is) ∙ answers_only call e empty_reply call.cycles e_is t)

-- ---- what is there, and sums that fit

pub absent : {A : Type 0} (o : Option A) → is_some o ≡ false → o ≡ None
absent None is = refl
absent (Some x) is = cc

pub present : {A : Type 0} (o : Option A) → is_some o ≡ true → (x : A) × (o ≡ Some x)
present None is = cc
present (Some x) is = (x, refl)

pub few_is : (n amount : ℕ) (u : Unit {0}) → unless (nat_le (n + amount) (2 ^ 127 - 1)) D.TooManyCycles ≡ Ok u → n + amount ≤ 2 ^ 127 - 1
few_is n amount u is = by (nat_le (n + amount) (2 ^ 127 - 1)) refl is where
  by : (b : Bool) → nat_le (n + amount) (2 ^ 127 - 1) ≡ b → unless b D.TooManyCycles ≡ Ok u → n + amount ≤ 2 ^ 127 - 1
  by true is passes = grind (arith, is)
  by false is passes = cc

module _ (p : Parts) (id : List ℕ) (cycles : ℕ) (holds : HoldsCycles p cycles) (d : StoredCanister) (found : lookup (at id) p.canisters.entries ≡ Some d) where
  room_there : cycles_of d + cycles + p.burned ≤ p.created
  room_there = found_each (HasRoom p cycles) id p.canisters.entries d found holds.room

  pub burned_fits : p.burned + d.balance ≤ 2 ^ 127 - 1
  burned_fits = omega (arith, room_there, holds.created)

  pub balance_fits : (amount : ℕ) → p.created + amount ≤ 2 ^ 127 - 1 → d.balance + amount ≤ 2 ^ 127 - 1
  balance_fits amount few = omega (arith, room_there, few)

  pub keeps_granted : (amount : ℕ) (q : Parts) → p.created + amount ≤ 2 ^ 127 - 1 → q.canisters.entries ≡ set_value (at id) p.canisters.entries (record d { balance = d.balance + amount }) → Keeps p q
  keeps_granted amount q few set =
      keeps_set p id d found (record d { balance = d.balance + amount }) q set holds.canisters
      (renewed_keeps d d.phase (d.balance + amount) (is_canister p id d found holds.canisters) (omega (arith, room_there, few)))
      (λ now h. same_true now id (seen d) (record (seen d) { balance = d.balance + amount }) refl refl h)

-- a canister goes
pub keeps_gone : (p q : Parts) (id : List ℕ) → q.canisters.entries ≡ remove_entry (at id) p.canisters.entries → AreCanisters p → Keeps p q
keeps_gone p q id gone all = record {
  canisters = subst (AllByRecursion (λ (e : List ℕ × StoredCanister). IsCanister e.1)) (sym gone) (each_remove (λ e. IsCanister e.1) id p.canisters.entries all);
  counts = λ now h. subst (AllByRecursion (HasCounts now)) (sym gone) (each_remove (HasCounts now) id p.canisters.entries h);
}
