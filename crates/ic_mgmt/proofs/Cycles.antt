-- A sound state has cycles in each place, and no more than were created.
use Rattle.std.proofs.Common.{◌≡◌, ℕ, zero, suc, ◌+◌, ◌-◌, ◌≤◌, List, [], ◌∷◌, map, slice_get, Some, ap, arith}
use Rattle.std.specs.List.{flat_map}
use Rattle.ic_behaviour.specs.declared.call.Message.{Message}
use Rattle.ic_behaviour.specs.Totals.{total}
use Rattle.ic_behaviour.specs.State.{waiting, CallContext, Canister, State}
use Rattle.ic_behaviour.specs.Items.{InContext, InWaiter, items_at, item_of, cycles_in}
use Rattle.ic_behaviour.specs.Counted.{bare}
use Rattle.ic_behaviour.proofs.Weights.{total-append, total-map, total-plus, total-flat, each-within}
use Rattle.ic_state.specs.declared.canister.Canister.{Canister as StoredCanister}
use Rattle.ic_state.specs.declared.world.Parts.{Parts}
use Rattle.ic_state.specs.Seen.{entry_of}
use Rattle.ic_state.specs.IsCanister.{cycles_of}
use Rattle.ic_mgmt_laws.specs.Moves.{message_of}
use Rattle.ic_behaviour.specs.declared.call.IncomingCall.{IncomingCall}
use Rattle.ic_mgmt.specs.Taken.{Taken, HasRoom, HoldsCycles}

-- what is at one place is within the whole
within : (w : Message → ℕ) (ms : List Message) (place : ℕ) (m : Message) → slice_get ms place ≡ Some m → w m ≤ total w ms
within w [] place m is = cc
within w (x ∷ ms) zero m is = let same : x ≡ m = cc in omega (arith, ap w same)
within w (x ∷ ms) (suc place) m is = omega (arith, within w ms place m is)

abbrev held_at : List ℕ × Canister → ℕ
held_at e = e.1.balance + total cycles_in (items_at e)

held_is : (e : List ℕ × StoredCanister) → held_at (entry_of e) ≡ cycles_of e.1
held_is e = omega (
  arith,
  total-append cycles_in (map (InContext e.0) (map bare e.1.contexts)) (map (InWaiter e.0) (waiting e.1.phase)),
  total-map (InContext e.0) cycles_in (map bare e.1.contexts),
  total-map bare (λ (x : CallContext). x.available) e.1.contexts,
  total-map (InWaiter e.0) cycles_in (waiting e.1.phase),
)

pub holds : (p : Parts) (call : IncomingCall) → Taken p call → HoldsCycles p call.cycles
holds p call t = record {
  canisters = t.canisters;
  room = each-within (HasRoom p call.cycles) p.canisters.entries (λ e one_of. omega (arith, one_of (λ f. held_at (entry_of f)), held_is e, spent));
  call = omega (arith, spent);
  created = omega (arith, t.sound.cycles.created, same_created);
} where
  s : State
  s = t.whole

  same_created : p.created ≡ s.created
  same_created = ap (λ (u : State). u.created) t.rest

  same_burned : p.burned ≡ s.burned
  same_burned = ap (λ (u : State). u.burned) t.rest

  same_canisters : map entry_of p.canisters.entries ≡ s.canisters
  same_canisters = ap (λ (u : State). u.canisters) t.rest

  -- all canisters, the call, and what was burned
  spent : total (λ (e : List ℕ × StoredCanister). held_at (entry_of e)) p.canisters.entries + call.cycles + p.burned ≤ p.created
  spent = omega (
    arith,
    t.sound.cycles.conserved,
    same_created,
    same_burned,
    total-append cycles_in (map item_of s.messages) (flat_map items_at s.canisters),
    total-map item_of cycles_in s.messages,
    within (λ m. cycles_in (item_of m)) s.messages t.place (message_of call t.callee) t.found,
    total-flat items_at cycles_in s.canisters,
    total-plus (λ (e : List ℕ × Canister). e.1.balance) (λ e. total cycles_in (items_at e)) s.canisters,
    ap (total held_at) same_canisters,
    total-map entry_of held_at p.canisters.entries,
  )
