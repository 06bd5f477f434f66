-- A map that is made at once has what is inserted one after another.
use Rattle.std.proofs.Common.{◌≡◌, ℕ, cond, List, [], ◌∷◌, Option, Some, None, refl, sym, ap, ◌∙◌}
use Rattle.std.specs.Prelude.{is_some}
use Rattle.std.specs.List.{fold, AllByRecursion}
use Rattle.std.specs.List.Sorted.{IsStrictlySortedBy}
use Rattle.std.specs.Ordering.{nat_cmp, eq_by_cmp}
use Rattle.std.specs.Cmp.Lexicographic.{slice_cmp, nat_list_cmp_total}
use Rattle.std.specs.BTreeMap.{BTreeMap, insert_entry, IsFromIterResult}
use Rattle.std.specs.Map.{lookup, keys_of, update, update_all}
use Rattle.std.proofs.lemmas.Map.Keys.{IsDistinct-from_sorted}
use Rattle.std.proofs.lemmas.Map.Made.{is_some-lookup}
use Rattle.std.proofs.lemmas.Map.Lookups.{btree_set_from_contains, exact_bytes}
use Rattle.ic_behaviour.specs.State.{at}
use Rattle.ic_behaviour.proofs.Weights.{laws, each-map}
use Rattle.ic_behaviour.proofs.Inserts.{sorted-insert}
use Rattle.ic_rounds.specs.HandledSlots.{insert_all}
use Rattle.ic_rounds.proofs.Takes.{lookup-inserted}
use Rattle.ic_rounds.proofs.PutBacks.{Rises}
use Rattle.ic_rounds.proofs.Firsts.{find_self}

none_rise : Rises []
unfolding IsStrictlySortedBy
none_rise = tt

module _ {X : Type 0} where
  pair_up : (look : List ℕ → Option X) (es fs : List (List ℕ × X)) → keys_of es ≡ keys_of fs → AllByRecursion (λ e. look e.0 ≡ Some e.1) es → AllByRecursion (λ e. look e.0 ≡ Some e.1) fs → es ≡ fs
  pair_up look [] [] same left right = refl
  pair_up look [] (f ∷ fs) same left right = cc
  pair_up look (e ∷ es) [] same left right = cc
  pair_up look (e ∷ es) (f ∷ fs) same left right =
      let key : e.0 ≡ f.0 = cc in
      let keys : keys_of es ≡ keys_of fs = cc in
      let found : Some e.1 ≡ Some f.1 = sym left.0 ∙ ap look key ∙ right.0 in
      let value : e.1 ≡ f.1 = cc in
      let rest = pair_up look es fs keys left.1 right.1 in
      λ i. (key i, value i) ∷ rest i

  -- sorted entries with the same look-ups are the same
  pub same_entries : (es fs : List (List ℕ × X)) → Rises (keys_of es) → Rises (keys_of fs) → ((q : List ℕ) → lookup (at q) es ≡ lookup (at q) fs) → es ≡ fs
  same_entries es fs sorted also same =
      let keys : keys_of es ≡ keys_of fs =
      btree_set_from_contains nat_list_cmp_total (record { keys = keys_of es }) (record { keys = keys_of fs }) sorted also
      (λ q. sym (is_some-lookup (at q) es) ∙ ap is_some (same q) ∙ is_some-lookup (at q) fs) exact_bytes in
      pair_up (λ q. lookup (at q) fs) es fs keys
      (each-map (λ (e : List ℕ × X). lookup (at e.0) es ≡ Some e.1) (λ (e : List ℕ × X). lookup (at e.0) fs ≡ Some e.1) (λ e found. sym (same e.0) ∙ found) es
      (find_self es (IsDistinct-from_sorted (slice_cmp nat_cmp) (keys_of es) sorted)))
      (find_self fs (IsDistinct-from_sorted (slice_cmp nat_cmp) (keys_of fs) also))

  abbrev onto : List (List ℕ × X) → List (List ℕ × X) → List (List ℕ × X)
  onto es pairs = fold (λ fs e. insert_entry (slice_cmp nat_cmp) fs e.0 e.1) es pairs

  looked : (pairs es : List (List ℕ × X)) (f : List ℕ → Option X) → ((q : List ℕ) → f q ≡ lookup (at q) es)
      → (q : List ℕ) → update_all (eq_by_cmp (slice_cmp nat_cmp)) f pairs q ≡ lookup (at q) (onto es pairs)
  looked [] es f same q = same q
  looked (e ∷ pairs) es f same q =
      looked pairs (insert_entry (slice_cmp nat_cmp) es e.0 e.1) (update (eq_by_cmp (slice_cmp nat_cmp)) f e.0 (Some e.1))
      (λ r. let turned = laws.symm e.0 r in let there = same r in (λ i. cond (turned i) (Some e.1) (there i)) ∙ sym (lookup-inserted r e.0 e.1 es)) q

  rises : (pairs es : List (List ℕ × X)) → Rises (keys_of es) → Rises (keys_of (onto es pairs))
  rises [] es sorted = sorted
  rises (e ∷ pairs) es sorted = rises pairs (insert_entry (slice_cmp nat_cmp) es e.0 e.1) (sorted-insert e.0 e.1 es sorted)

  pub made_is : (pairs : List (List ℕ × X)) (m : BTreeMap (List ℕ) X) → IsFromIterResult (slice_cmp nat_cmp) pairs m → m.entries ≡ insert_all pairs
  made_is pairs m is = same_entries m.entries (insert_all pairs) is.1 (rises pairs [] none_rise) (λ q. is.0 q ∙ looked pairs [] (λ _. None) (λ r. refl) q)
