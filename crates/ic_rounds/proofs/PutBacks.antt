-- Canisters taken out of a map and put back are changed in their places.
use Rattle.std.proofs.Common.{◌≡◌, ℕ, true, false, List, [], ◌∷◌, refl, sym, ap, ◌∙◌, subst, inl, inr, true≢false, is_eq}
use Rattle.std.specs.List.{AllByRecursion, list_any, fold}
use Rattle.std.specs.List.Sorted.{IsStrictlySortedBy}
use Rattle.std.specs.declared.cmp.Ordering.{Ordering}
use Rattle.std.specs.declared.cmp.Ordering.TheVariants.{Less, Equal, Greater}
use Rattle.std.specs.Ordering.{nat_cmp, match_ordering, ordering_reverse}
use Rattle.std.specs.Cmp.Lexicographic.{slice_cmp, nat_list_cmp_total}
use Rattle.std.specs.BTreeMap.{insert_entry}
use Rattle.std.specs.Map.{keys_of, remove_entry, set_value}
use Rattle.std.proofs.lemmas.Bool.{cases_Bool}
use Rattle.std.proofs.lemmas.Map.{keys-set_value}
use Rattle.std.proofs.lemmas.Map.Keys.{IsDistinct-tail, IsDistinct-head}
use Rattle.ic_behaviour.specs.declared.env.Env.{Env}
use Rattle.ic_behaviour.specs.State.{at}
use Rattle.ic_behaviour.proofs.Weights.{laws, at-is}
use Rattle.ic_rounds.specs.Slots.{Stored, Slot, ran, after_slot, put_in, after_slot_in_place}
use Rattle.ic_rounds.proofs.Batches.{AreDistinct, keys_of_slots}

abbrev pub cmp : List ℕ → List ℕ → Ordering
cmp = slice_cmp nat_cmp

abbrev pub Rises : List (List ℕ) → Type 0
Rises keys = IsStrictlySortedBy (slice_cmp nat_cmp) keys

below-more : (k x : List ℕ) (ys : List (List ℕ)) → cmp k x ≡ Less → AllByRecursion (λ y. cmp x y ≡ Less) ys → AllByRecursion (λ y. cmp k y ≡ Less) ys
below-more k x [] less all = tt
below-more k x (y ∷ ys) less all = (nat_list_cmp_total.trans k x y less all.0, below-more k x ys less all.1)

-- a key that is there is not below the first
behind : (k b : List ℕ) (ys : List (List ℕ)) → list_any (at k) ys ≡ true → AllByRecursion (λ y. cmp b y ≡ Less) ys → cmp b k ≡ Less
behind k b [] some all = absurd (true≢false (sym some))
behind k b (y ∷ ys) some all =
    elim (cases_Bool (at k y)) [
      | inl here ↦ subst (λ (x : List ℕ). cmp b x ≡ Less) (sym (at-is k y here)) all.0
      | inr there ↦ (let later : list_any (at k) ys ≡ true = rw there at some in behind k b ys later all.1)
    ]

module _ {X : Type 0} where
  -- without the entries of these keys
  abbrev pub minus : List (List ℕ) → List (List ℕ × X) → List (List ℕ × X)
  minus keys es = fold (λ fs key. remove_entry (at key) fs) es keys

  below : (key : List ℕ) (b : List ℕ) (fs : List (List ℕ × X)) → AllByRecursion (λ y. cmp b y ≡ Less) (keys_of fs) → AllByRecursion (λ y. cmp b y ≡ Less) (keys_of (remove_entry (at key) fs))
  below key b [] all = all
  below key b (f ∷ fs) all = elim (cases_Bool (at key f.0)) [ inl here ↦ rw here all.1 | inr there ↦ rw there (all.0, below key b fs all.1) ]

  pub sorted-remove : (key : List ℕ) (es : List (List ℕ × X)) → Rises (keys_of es) → Rises (keys_of (remove_entry (at key) es))
  unfolding IsStrictlySortedBy
  sorted-remove key [] sorted = sorted
  sorted-remove key (e ∷ es) sorted =
      elim (cases_Bool (at key e.0)) [
        | inl here ↦ rw here sorted.1
        | inr there ↦ rw there (below key e.0 es sorted.0, sorted-remove key es sorted.1)
      ]

  -- a key below all others goes first
  insert-first : (k : List ℕ) (v : X) (es : List (List ℕ × X)) → AllByRecursion (λ y. cmp k y ≡ Less) (keys_of es) → insert_entry (slice_cmp nat_cmp) es k v ≡ (k, v) ∷ es
  insert-first k v [] all = refl
  insert-first k v (e ∷ es) all = ap (λ o. match_ordering o ((k, v) ∷ e ∷ es) ((e.0, v) ∷ es) (e ∷ insert_entry (slice_cmp nat_cmp) es k v)) all.0

  -- another key may go before or after
  insert-apart : (j k : List ℕ) (v : X) (es : List (List ℕ × X)) → Rises (keys_of es) → at j k ≡ false
      → insert_entry (slice_cmp nat_cmp) (remove_entry (at j) es) k v ≡ remove_entry (at j) (insert_entry (slice_cmp nat_cmp) es k v)
  unfolding IsStrictlySortedBy
  insert-apart j k v [] sorted differs = rw differs refl
  insert-apart j k v (e ∷ es) sorted differs = by (slice_cmp nat_cmp k e.0) refl (insert-apart j k v es sorted.1 differs) where
    by : (o : Ordering) → slice_cmp nat_cmp k e.0 ≡ o
        → insert_entry (slice_cmp nat_cmp) (remove_entry (at j) es) k v ≡ remove_entry (at j) (insert_entry (slice_cmp nat_cmp) es k v)
        → insert_entry (slice_cmp nat_cmp) (remove_entry (at j) (e ∷ es)) k v ≡ remove_entry (at j) (match_ordering o ((k, v) ∷ e ∷ es) ((e.0, v) ∷ es) (e ∷ insert_entry (slice_cmp nat_cmp) es k v))
    by Less is more =
        elim (cases_Bool (at j e.0)) [
          | inl here ↦ rw (here, differs) (insert-first k v es (below-more k e.0 (keys_of es) is sorted.0))
          | inr there ↦ rw (there, differs, is) refl
        ]
    by Equal is more =
        let same : k ≡ e.0 = at-is k e.0 (ap is_eq is) in
        let there : at j e.0 ≡ false = subst (λ (x : List ℕ). at j x ≡ false) same differs in
        rw (there, is) refl
    by Greater is more =
        elim (cases_Bool (at j e.0)) [
          | inl here ↦ rw here refl
          | inr there ↦ rw (there, is) (ap (λ l. e ∷ l) more)
        ]

  -- the same key goes back into its place
  insert-back : (k : List ℕ) (v : X) (es : List (List ℕ × X)) → Rises (keys_of es) → list_any (at k) (keys_of es) ≡ true
      → insert_entry (slice_cmp nat_cmp) (remove_entry (at k) es) k v ≡ set_value (at k) es v
  unfolding IsStrictlySortedBy
  insert-back k v [] sorted some = absurd (true≢false (sym some))
  insert-back k v (e ∷ es) sorted some =
      elim (cases_Bool (at k e.0)) [
        | inl here ↦
            let same : k ≡ e.0 = at-is k e.0 here in
            let least = subst (λ (x : List ℕ). AllByRecursion (λ y. cmp x y ≡ Less) (keys_of es)) (sym same) sorted.0 in
            rw here (insert-first k v es least ∙ ap (λ (x : List ℕ). (x, v) ∷ es) same)
        | inr there ↦
            let later : list_any (at k) (keys_of es) ≡ true = rw there at some in
            let greater : slice_cmp nat_cmp k e.0 ≡ Greater = nat_list_cmp_total.antisymm k e.0 ∙ ap ordering_reverse (behind k e.0 (keys_of es) later sorted.0) in
            rw (there, greater) (ap (λ l. e ∷ l) (insert-back k v es sorted.1 later))
      ]

  insert-minus : (keys : List (List ℕ)) (k : List ℕ) (v : X) (es : List (List ℕ × X)) → Rises (keys_of es) → AllByRecursion (λ y. at k y ≡ false) keys
      → insert_entry (slice_cmp nat_cmp) (minus keys es) k v ≡ minus keys (insert_entry (slice_cmp nat_cmp) es k v)
  insert-minus [] k v es sorted apart = refl
  insert-minus (j ∷ keys) k v es sorted apart =
      insert-minus keys k v (remove_entry (at j) es) (sorted-remove j es sorted) apart.1
      ∙ ap (minus keys) (insert-apart j k v es sorted (laws.symm j k ∙ apart.0))

-- taken out and put back, one after another
pub put_back : (env : Env) (keys : List (List ℕ)) (w : Stored) (slots : List Slot) → keys_of w.canisters ≡ keys → Rises keys → AreDistinct (keys_of_slots slots)
    → AllByRecursion (λ (slot : Slot). list_any (at slot.key) keys ≡ true) slots
    → fold (after_slot env) (record w { canisters = minus (keys_of_slots slots) w.canisters }) slots ≡ fold (after_slot_in_place env) w slots
put_back env keys w [] same sorted distinct there = refl
put_back env keys w (slot ∷ slots) same sorted distinct there =
    let h = ran env slot in
    let es = w.canisters in
    let rises : Rises (keys_of es) = subst Rises (sym same) sorted in
    let some : list_any (at slot.key) (keys_of es) ≡ true = ap (list_any (at slot.key)) same ∙ there.0 in
    let back : insert_entry (slice_cmp nat_cmp) (minus (keys_of_slots slots) (remove_entry (at slot.key) es)) slot.key h.canister ≡ minus (keys_of_slots slots) (set_value (at slot.key) es h.canister) =
    insert-minus (keys_of_slots slots) slot.key h.canister (remove_entry (at slot.key) es) (sorted-remove slot.key es rises) (IsDistinct-head _ slot.key (keys_of_slots slots) distinct)
    ∙ ap (minus (keys_of_slots slots)) (insert-back slot.key h.canister es rises some) in
    ap (λ l. fold (after_slot env) (record (put_in w slot.key h) { canisters = l }) slots) back
    ∙ put_back env keys (put_in w slot.key h) slots (keys-set_value (at slot.key) es h.canister ∙ same) sorted (IsDistinct-tail _ slot.key (keys_of_slots slots) distinct) there.1
