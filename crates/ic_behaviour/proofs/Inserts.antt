-- A new key in a map: where it goes, and that keys still rise.
use Rattle.std.proofs.Common.{◌≡◌, ℕ, false, List, [], ◌∷◌, ◌++◌, refl, sym, ap, ◌∙◌, true≢false, is_eq}
use Rattle.std.specs.List.{AllByRecursion}
use Rattle.std.specs.List.Sorted.{IsStrictlySortedBy}
use Rattle.std.specs.Map.{keys_of}
use Rattle.std.specs.BTreeMap.{insert_entry}
use Rattle.std.specs.declared.cmp.Ordering.{Ordering}
use Rattle.std.specs.declared.cmp.Ordering.TheVariants.{Less, Equal, Greater}
use Rattle.std.specs.Ordering.{nat_cmp, match_ordering, ordering_reverse}
use Rattle.std.specs.Cmp.Lexicographic.{slice_cmp, nat_list_cmp_total}
use Rattle.ic_behaviour.specs.State.{at}

below-all : (k x : List ℕ) (ys : List (List ℕ)) → slice_cmp nat_cmp k x ≡ Less → AllByRecursion (λ y. slice_cmp nat_cmp x y ≡ Less) ys → AllByRecursion (λ y. slice_cmp nat_cmp k y ≡ Less) ys
below-all k x [] less all = tt
below-all k x (y ∷ ys) less all = (nat_list_cmp_total.trans k x y less all.0, below-all k x ys less all.1)

module _ {V : Type 0} where
  -- where a new key goes
  pub record Gap (key : List ℕ) (es : List (List ℕ × V)) (v : V) : Type 0 where
    pub before : List (List ℕ × V)
    pub after : List (List ℕ × V)
    pub whole : es ≡ before ++ after
    pub made : insert_entry (slice_cmp nat_cmp) es key v ≡ before ++ (key, v) ∷ after

  pub gap : (key : List ℕ) (v : V) (es : List (List ℕ × V)) → AllByRecursion (λ (e : List ℕ × V). at key e.0 ≡ false) es → Gap key es v
  gap key v [] all = record { before = []; after = []; whole = refl; made = refl }
  gap key v (e ∷ es) all = by (slice_cmp nat_cmp key e.0) refl (gap key v es all.1) where
    by : (o : Ordering) → slice_cmp nat_cmp key e.0 ≡ o → Gap key es v → Gap key (e ∷ es) v
    by Less is rest = record { before = []; after = e ∷ es; whole = refl; made = ap (λ o. match_ordering o ((key, v) ∷ e ∷ es) ((e.0, v) ∷ es) (e ∷ insert_entry (slice_cmp nat_cmp) es key v)) is }
    by Equal is rest = absurd (true≢false (sym (ap is_eq is) ∙ all.0))
    by Greater is rest = record {
      before = e ∷ rest.before;
      after = rest.after;
      whole = ap (λ l. e ∷ l) rest.whole;
      made = ap (λ o. match_ordering o ((key, v) ∷ e ∷ es) ((e.0, v) ∷ es) (e ∷ insert_entry (slice_cmp nat_cmp) es key v)) is ∙ ap (λ l. e ∷ l) rest.made;
    }

  -- the keys still rise
  keys_by : (k : List ℕ) (v : V) (e : List ℕ × V) (es more : List (List ℕ × V)) (P : List (List ℕ) → Type 0) (o : Ordering)
      → (o ≡ Less → P (k ∷ e.0 ∷ keys_of es)) → (o ≡ Equal → P (e.0 ∷ keys_of es)) → (o ≡ Greater → P (e.0 ∷ keys_of more))
      → P (keys_of (match_ordering o ((k, v) ∷ e ∷ es) ((e.0, v) ∷ es) (e ∷ more)))
  keys_by k v e es more P Less a b c = a refl
  keys_by k v e es more P Equal a b c = b refl
  keys_by k v e es more P Greater a b c = c refl

  all-insert : (P : List ℕ → Type 0) (k : List ℕ) (v : V) (es : List (List ℕ × V)) → P k → AllByRecursion P (keys_of es) → AllByRecursion P (keys_of (insert_entry (slice_cmp nat_cmp) es k v))
  all-insert P k v [] here all = (here, tt)
  all-insert P k v (e ∷ es) here all =
      keys_by k v e es (insert_entry (slice_cmp nat_cmp) es k v) (AllByRecursion P) (slice_cmp nat_cmp k e.0) (λ o. (here, all)) (λ o. all) (λ o. (all.0, all-insert P k v es here all.1))

  pub sorted-insert : (k : List ℕ) (v : V) (es : List (List ℕ × V)) → IsStrictlySortedBy (slice_cmp nat_cmp) (keys_of es) → IsStrictlySortedBy (slice_cmp nat_cmp) (keys_of (insert_entry (slice_cmp nat_cmp) es k v))
  unfolding IsStrictlySortedBy
  sorted-insert k v [] sorted = (tt, tt)
  sorted-insert k v (e ∷ es) sorted =
      keys_by k v e es (insert_entry (slice_cmp nat_cmp) es k v) (IsStrictlySortedBy (slice_cmp nat_cmp)) (slice_cmp nat_cmp k e.0)
      (λ o. ((o, below-all k e.0 (keys_of es) o sorted.0), sorted))
      (λ o. sorted)
      (λ o. (all-insert (λ y. slice_cmp nat_cmp e.0 y ≡ Less) k v es (nat_list_cmp_total.antisymm e.0 k ∙ ap ordering_reverse o) sorted.0, sorted-insert k v es sorted.1))
