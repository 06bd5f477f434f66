-- Entries of maps whose keys rise.
use Rattle.std.proofs.Common.{◌≡◌, Bool, List, [], ◌∷◌, ◌++◌, true, false, Some, refl, ap, ◌∙◌, inl, inr}
use Rattle.std.specs.List.{AllByRecursion}
use Rattle.std.specs.List.Sorted.{IsStrictlySortedBy}
use Rattle.std.specs.declared.cmp.Ordering.{Ordering}
use Rattle.std.specs.declared.cmp.Ordering.TheVariants.{Less, Greater}
use Rattle.std.specs.Ordering.{match_ordering}
use Rattle.std.specs.Map.{lookup, remove_entry, keys_of}
use Rattle.std.specs.BTreeMap.{is_at, insert_entry}
use Rattle.std.proofs.lemmas.Bool.{cases_Bool}

module _ {K X : Type 0} (cmp : K → K → Ordering) where
  -- a key above all others comes last
  pub insert_last : (k : K) (x : X) (es : List (K × X)) → AllByRecursion (λ j. cmp k j ≡ Greater) (keys_of es) → insert_entry cmp es k x ≡ es ++ (k, x) ∷ []
  insert_last k x [] all = refl
  insert_last k x (e ∷ es) all =
      ap (λ o. match_ordering o ((k, x) ∷ e ∷ es) ((e.0, x) ∷ es) (e ∷ insert_entry cmp es k x)) all.0
      ∙ ap (λ l. e ∷ l) (insert_last k x es all.1)

  pub sorted_last : (k : K) (x : X) (es : List (K × X)) → IsStrictlySortedBy cmp (keys_of es) → AllByRecursion (λ j. cmp j k ≡ Less) (keys_of es)
      → IsStrictlySortedBy cmp (keys_of (es ++ (k, x) ∷ []))
  unfolding IsStrictlySortedBy
  sorted_last k x [] sorted all = (tt, tt)
  sorted_last k x (e ∷ es) sorted all = (below es sorted.0, sorted_last k x es sorted.1 all.1) where
    below : (fs : List (K × X)) → AllByRecursion (λ y. cmp e.0 y ≡ Less) (keys_of fs) → AllByRecursion (λ y. cmp e.0 y ≡ Less) (keys_of (fs ++ (k, x) ∷ []))
    below [] rest = (all.0, tt)
    below (f ∷ fs) rest = (rest.0, below fs rest.1)

  -- an entry leaves
  pub all_keys_removed : (P : K → Type 0) (test : K → Bool) (es : List (K × X)) → AllByRecursion P (keys_of es) → AllByRecursion P (keys_of (remove_entry test es))
  all_keys_removed P test [] all = tt
  all_keys_removed P test (e ∷ es) all = elim (cases_Bool (test e.0)) [ inl here ↦ rw here all.1 | inr there ↦ rw there (all.0, all_keys_removed P test es all.1) ]

  pub sorted_removed : (test : K → Bool) (es : List (K × X)) → IsStrictlySortedBy cmp (keys_of es) → IsStrictlySortedBy cmp (keys_of (remove_entry test es))
  unfolding IsStrictlySortedBy
  sorted_removed test [] sorted = sorted
  sorted_removed test (e ∷ es) sorted =
      elim (cases_Bool (test e.0)) [
        | inl here ↦ rw here sorted.1
        | inr there ↦ rw there (all_keys_removed (λ y. cmp e.0 y ≡ Less) test es sorted.0, sorted_removed test es sorted.1)
      ]

  -- the value of each key is found, where a key is itself and no lower one
  pub found-own : ((k : K) → is_at (cmp k) k ≡ true) → ((j k : K) → cmp j k ≡ Less → is_at (cmp k) j ≡ false) → (es : List (K × X)) → IsStrictlySortedBy cmp (keys_of es) → AllByRecursion (λ e. lookup (is_at (cmp e.0)) es ≡ Some e.1) es
  unfolding IsStrictlySortedBy
  found-own self lower [] sorted = tt
  found-own self lower (e ∷ es) sorted = (let here = self e.0 in rw here refl, each es sorted.0 (found-own self lower es sorted.1)) where
    each : (fs : List (K × X)) → AllByRecursion (λ y. cmp e.0 y ≡ Less) (keys_of fs) → AllByRecursion (λ f. lookup (is_at (cmp f.0)) es ≡ Some f.1) fs → AllByRecursion (λ f. lookup (is_at (cmp f.0)) (e ∷ es) ≡ Some f.1) fs
    each [] less all = tt
    each (f ∷ fs) less all = (let differs = lower e.0 f.0 less.0 in rw differs all.0, each fs less.1 all.1)
