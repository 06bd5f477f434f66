-- The slots that first messages make, and what they come to when canisters stay in their places.
use Rattle.std.proofs.Common.{◌≡◌, ℕ, true, List, [], ◌∷◌, map, length, inl, inr, refl, sym, ap, ◌∙◌, subst}
use Rattle.std.specs.Prelude.{is_some}
use Rattle.std.specs.List.{AllByRecursion, list_any, fold}
use Rattle.std.specs.Map.{keys_of, remove_entry}
use Rattle.std.proofs.lemmas.Bool.{cases_Bool}
use Rattle.std.proofs.lemmas.List.{length-map}
use Rattle.std.proofs.lemmas.Map.Made.{is_some-lookup}
use Rattle.ic_behaviour.specs.declared.call.Message.{Message}
use Rattle.ic_behaviour.specs.declared.env.Env.{Env}
use Rattle.ic_behaviour.specs.State.{at}
use Rattle.ic_state.specs.declared.canister.Canister.{Canister as StoredCanister}
use Rattle.ic_state.specs.IsCanister.{IsCanister}
use Rattle.ic_rounds.specs.declared.slot.Slot.{Slot as StoredSlot}
use Rattle.ic_rounds.specs.Dealing.{Dealing, deal, none_dealt, AreFirsts}
use Rattle.ic_rounds.specs.Slots.{Stored, Slot, seen_entry, slot_of, after_slot, after_slot_in_place}
use Rattle.ic_rounds.proofs.Batches.{AreDistinct, keys_of_slots}
use Rattle.ic_rounds.proofs.PutBacks.{Rises, minus, put_back}
use Rattle.ic_rounds.proofs.Deals.{pairs_of, IsTheirs, Deals, deals, each-minus}

seen-remove : (key : List ℕ) (es : List (List ℕ × StoredCanister)) → map seen_entry (remove_entry (at key) es) ≡ remove_entry (at key) (map seen_entry es)
seen-remove key [] = refl
seen-remove key (e ∷ es) = elim (cases_Bool (at key e.0)) [ inl here ↦ rw here refl | inr there ↦ rw there (ap (λ l. seen_entry e ∷ l) (seen-remove key es)) ]

seen-minus : (keys : List (List ℕ)) (es : List (List ℕ × StoredCanister)) → map seen_entry (minus keys es) ≡ minus keys (map seen_entry es)
seen-minus [] es = refl
seen-minus (key ∷ keys) es = seen-minus keys (remove_entry (at key) es) ∙ ap (minus keys) (seen-remove key es)

keys_seen : (es : List (List ℕ × StoredCanister)) → keys_of es ≡ keys_of (map seen_entry es)
keys_seen [] = refl
keys_seen (e ∷ es) = ap (λ l. e.0 ∷ l) (keys_seen es)

slot_keys : (slots : List StoredSlot) → keys_of_slots (map slot_of slots) ≡ keys_of (pairs_of slots)
slot_keys [] = refl
slot_keys (slot ∷ slots) = ap (λ l. slot.key ∷ l) (slot_keys slots)

known : (es : List (List ℕ × StoredCanister)) (slots : List StoredSlot) → AllByRecursion (IsTheirs es) slots → AllByRecursion (λ (slot : Slot). list_any (at slot.key) (keys_of (map seen_entry es)) ≡ true) (map slot_of slots)
known es [] theirs = tt
known es (slot ∷ slots) theirs =
    (ap (list_any (at slot.key)) (sym (keys_seen es)) ∙ sym (is_some-lookup (at slot.key) es) ∙ ap is_some theirs.0, known es slots theirs.1)

module _ (es : List (List ℕ × StoredCanister)) (firsts : List (List ℕ × Message)) (are : AreFirsts es firsts) where
  abbrev pub D : Dealing
  D = fold deal (none_dealt es) firsts

  dealt : Deals (none_dealt es) firsts D
  dealt = deals (none_dealt es) firsts are.rising are.distinct are.there

  pub pairs : pairs_of D.slots ≡ firsts
  pairs = ap pairs_of dealt.slots ∙ dealt.pairs

  pub theirs : AllByRecursion (IsTheirs es) D.slots
  theirs = subst (AllByRecursion (IsTheirs es)) (sym dealt.slots) dealt.theirs

  pub count : length D.slots ≡ length firsts
  count = sym (length-map D.slots (λ (slot : StoredSlot). (slot.key, slot.message))) ∙ ap length pairs

  pub keys_are : keys_of_slots (map slot_of D.slots) ≡ keys_of firsts
  keys_are = slot_keys D.slots ∙ ap keys_of pairs

  pub distinct : AreDistinct (keys_of_slots (map slot_of D.slots))
  distinct = subst AreDistinct (sym keys_are) are.distinct

  pub idle_keep : AllByRecursion (λ (e : List ℕ × StoredCanister). IsCanister e.1) es → AllByRecursion (λ (e : List ℕ × StoredCanister). IsCanister e.1) D.canisters
  idle_keep keep = subst (AllByRecursion (λ (e : List ℕ × StoredCanister). IsCanister e.1)) (sym dealt.others) (each-minus (λ e. IsCanister e.1) (keys_of firsts) es keep)

  -- taken out and put back, they are changed in their places
  pub in_their_places : (env : Env) (w : Stored) → w.canisters ≡ map seen_entry es
      → fold (after_slot env) (record w { canisters = map seen_entry D.canisters }) (map slot_of D.slots) ≡ fold (after_slot_in_place env) w (map slot_of D.slots)
  in_their_places env w same =
      let keys = keys_of (map seen_entry es) in
      let idle : map seen_entry D.canisters ≡ minus (keys_of_slots (map slot_of D.slots)) w.canisters =
      ap (map seen_entry) dealt.others ∙ seen-minus (keys_of firsts) es ∙ ap (λ ks. minus ks (map seen_entry es)) (sym keys_are) ∙ ap (minus (keys_of_slots (map slot_of D.slots))) (sym same) in
      ap (λ l. fold (after_slot env) (record w { canisters = l }) (map slot_of D.slots)) idle
      ∙ put_back env keys w (map slot_of D.slots) (ap keys_of same) (subst Rises (keys_seen es) are.rising) distinct (known es D.slots theirs)
