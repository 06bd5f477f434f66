-- A slot of a sound state may be executed.
use Rattle.std.proofs.Common.{◌≡◌, ◌+◌, ℕ, List, [], ◌∷◌, map, Some, sym, ap, ◌∙◌, subst, arith}
use Rattle.std.specs.List.{AllByRecursion}
use Rattle.std.specs.Map.{lookup}
use Rattle.std.proofs.lemmas.Map.Keys.{IsDistinct-tail, IsDistinct-head}
use Rattle.ic_behaviour.specs.State.{at, callee_of, State}
use Rattle.ic_behaviour.specs.Counted.{counted, dropped}
use Rattle.ic_behaviour.specs.Sound.{Sound}
use Rattle.ic_behaviour.specs.Deliver.{env_at}
use Rattle.ic_behaviour.proofs.Ties.{tallied}
use Rattle.ic_state.specs.Seen.{seen}
use Rattle.ic_state.specs.IsCanister.{IsCanister}
use Rattle.ic_deliver.proofs.Ready.{can_handle, burned_fits}
use Rattle.ic_rounds.specs.declared.slot.Slot.{Slot as StoredSlot}
use Rattle.ic_rounds.specs.Slots.{Stored, slot_of, ran, after_slot, IsReady, AreReady}
use Rattle.ic_rounds.proofs.Slots.{IsSlot}
use Rattle.ic_rounds.proofs.Batches.{AreDistinct, keys_of_slots, callee_is, place_at, next_sound, next_is, slots_stay, next}

pub ready : (limit price : ℕ) (s : State) → Sound s → (slot : StoredSlot) → IsSlot s (slot_of slot) → IsCanister slot.canister → IsReady slot
ready limit price s sound slot is keeps =
    let m = slot.message in
    let a = dropped (seen slot.canister) in
    let callee : slot.key ≡ callee_of m = callee_is limit price s sound (slot_of slot) is in
    let there : lookup (at (callee_of m)) s.canisters ≡ Some a = ap (λ k. lookup (at k) s.canisters) (sym callee) ∙ is.there in
    let counts : counted s (callee_of m) a ≡ seen slot.canister = ap (λ k. counted s k a) (sym callee) ∙ is.counts in
    let is_m = place_at limit price s sound (slot_of slot) is in
    can_handle s (tallied s sound) _ m is_m slot.canister there counts keeps

pub ready_all : (limit price : ℕ) (s : State) (w : Stored) (slots : List StoredSlot) → Sound s → AreDistinct (keys_of_slots (map slot_of slots)) → AllByRecursion (IsSlot s) (map slot_of slots)
    → AllByRecursion IsReady slots → w.burned ≡ s.burned → AreReady (env_at s.time limit price) w slots
ready_all limit price s w [] sound distinct all ready same = tt
ready_all limit price s w (slot ∷ slots) sound distinct all ready same =
    let env = env_at s.time limit price in
    let t = next limit price s sound (slot_of slot) all.0 in
    let after = next_is limit price s sound (slot_of slot) all.0 in
    let burned : t.burned ≡ s.burned + (ran env (slot_of slot)).burned = ap (λ (v : Stored). v.burned) after in
    let time : t.time ≡ s.time = ap (λ (v : Stored). v.time) after in
    let sound_next = next_sound limit price s sound (slot_of slot) all.0 in
    let rest = ready_all limit price t (after_slot env w (slot_of slot)) slots sound_next (IsDistinct-tail _ slot.key (keys_of_slots (map slot_of slots)) distinct)
    (slots_stay limit price s sound (slot_of slot) all.0 (map slot_of slots) (IsDistinct-head _ slot.key (keys_of_slots (map slot_of slots)) distinct) all.1) ready.1
    (ap (λ n. n + (ran env (slot_of slot)).burned) same ∙ sym burned) in (
      ready.0,
      omega (arith, burned_fits t sound_next, burned, same),
      subst (λ (n : ℕ). AreReady (env_at n limit price) (after_slot env w (slot_of slot)) slots) time rest,
    )
