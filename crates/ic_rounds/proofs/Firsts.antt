-- The first phase from one pass through the messages.
use Rattle.std.proofs.Common.{◌≡◌, ℕ, Bool, true, false, cond, ◌&&◌, List, [], ◌∷◌, Some, None, refl, sym, ap, ◌∙◌, inl, inr}
use Rattle.std.specs.Prelude.{is_some}
use Rattle.std.specs.List.{list_any, find, fold, AllByRecursion, IsDistinct}
use Rattle.std.specs.List.Sorted.{IsStrictlySortedBy}
use Rattle.std.specs.Ordering.{nat_cmp, eq_by_cmp}
use Rattle.std.specs.Cmp.Lexicographic.{slice_cmp, nat_list_cmp_total}
use Rattle.std.specs.Map.{lookup, keys_of}
use Rattle.std.proofs.lemmas.Bool.{cases_Bool, cond-true, cond-false, or_left, or_right}
use Rattle.std.proofs.lemmas.Map.Keys.{IsDistinct-tail, IsDistinct-head, IsDistinct-from_sorted}
use Rattle.std.proofs.lemmas.Map.Made.{is_some-lookup, is_member-filter}
use Rattle.std.proofs.lemmas.Map.Lookups.{btree_set_from_contains, exact_bytes}
use Rattle.std.proofs.lemmas.List.Kept.{IsStrictlySortedBy-filter}
use Rattle.ic_behaviour.specs.declared.call.Message.{Message}
use Rattle.ic_behaviour.specs.State.{State, at, callee_of}
use Rattle.ic_behaviour.proofs.Weights.{laws, at-is, at-self}
use Rattle.ic_behaviour.specs.Round.{busy, has_message}
use Rattle.ic_rounds.specs.Slots.{Slot}
use Rattle.ic_rounds.specs.Taking.{Taking, is_key, sort_out, none_taken}
use Rattle.ic_rounds.proofs.Slots.{left, without_first}
use Rattle.ic_rounds.proofs.Batches.{keys_of_slots}
use Rattle.ic_rounds.proofs.PutBacks.{Rises}
use Rattle.ic_rounds.proofs.Takes.{Sorted, sorted_out, rest_same, rest_keys, Agree, left_by}

any_find : {X : Type 0} (p : X → Bool) (xs : List X) → is_some (find p xs) ≡ list_any p xs
any_find p [] = refl
any_find p (x ∷ xs) = elim (cases_Bool (p x)) [ inl here ↦ rw here refl | inr there ↦ rw there (any_find p xs) ]

-- each entry is what its key finds
pub find_self : {X : Type 0} (es : List (List ℕ × X)) → IsDistinct (eq_by_cmp (slice_cmp nat_cmp)) (keys_of es) → AllByRecursion (λ e. lookup (at e.0) es ≡ Some e.1) es
find_self [] distinct = tt
find_self {X} (e ∷ es) distinct =
    (cond-true _ _ _ (at-self e.0), more es (IsDistinct-head _ e.0 (keys_of es) distinct) (find_self es (IsDistinct-tail _ e.0 (keys_of es) distinct)))
  where
    more : (fs : List (List ℕ × X)) → AllByRecursion (λ y. at e.0 y ≡ false) (keys_of fs) → AllByRecursion (λ f. lookup (at f.0) es ≡ Some f.1) fs
        → AllByRecursion (λ f. lookup (at f.0) (e ∷ es) ≡ Some f.1) fs
    more [] apart all = tt
    more (f ∷ fs) apart all = (cond-false _ _ _ (laws.symm f.0 e.0 ∙ apart.0) ∙ all.0, more fs apart.1 all.1)

-- each message is to somebody who has one
all_found : (ms : List Message) → AllByRecursion (λ m. list_any (λ (x : Message). at (callee_of m) (callee_of x)) ms ≡ true) ms
all_found [] = tt
all_found (m ∷ ms) = (or_left _ _ (at-self (callee_of m)), more ms (all_found ms)) where
  more : (xs : List Message) → AllByRecursion (λ x. list_any (λ (y : Message). at (callee_of x) (callee_of y)) ms ≡ true) xs
      → AllByRecursion (λ x. list_any (λ (y : Message). at (callee_of x) (callee_of y)) (m ∷ ms) ≡ true) xs
  more [] all = tt
  more (x ∷ xs) all = (or_right _ _ all.0, more xs all.1)

pub left_is : (slots : List Slot) (ms : List Message) → left_by (keys_of_slots slots) ms ≡ left slots ms
left_is [] ms = refl
left_is (slot ∷ slots) ms = left_is slots (without_first slot.key ms)

module _ (s : State) (rises : Rises (keys_of s.canisters)) where
  abbrev is : List ℕ → Bool
  is = is_key s.canisters

  abbrev end : Taking
  end = fold (sort_out (is_key s.canisters)) none_taken s.messages

  pub sorted : Sorted is (record { firsts = []; left = [] }) s.messages end
  unfolding IsStrictlySortedBy
  sorted = sorted_out is (record { firsts = []; left = [] }) s.messages tt

  pub found : (q : List ℕ) → lookup (at q) end.firsts ≡ cond (is q) (find (λ (m : Message). at q (callee_of m)) s.messages) None
  found q = sorted.firsts q

  has : (q : List ℕ) → list_any (at q) (keys_of end.firsts) ≡ (is q && has_message s.messages q)
  has q =
      sym (is_some-lookup (at q) end.firsts) ∙ ap is_some (found q)
      ∙ elim (cases_Bool (is q)) [ inl known ↦ rw known (any_find (λ (m : Message). at q (callee_of m)) s.messages) | inr not_known ↦ rw not_known refl ]

  pub firsts_busy : keys_of end.firsts ≡ busy s
  firsts_busy =
      btree_set_from_contains nat_list_cmp_total (record { keys = keys_of end.firsts }) (record { keys = busy s }) sorted.ordered
      (IsStrictlySortedBy-filter (slice_cmp nat_cmp) (has_message s.messages) (keys_of s.canisters) rises)
      (λ q. has q
      ∙ ap (λ b. b && has_message s.messages q) (is_some-lookup (at q) s.canisters)
      ∙ sym (is_member-filter laws (has_message s.messages) q (λ x e. ap (has_message s.messages) (at-is q x e)) (keys_of s.canisters)))
      exact_bytes

  agrees : (ms : List Message) → AllByRecursion (λ m. list_any (λ (x : Message). at (callee_of m) (callee_of x)) s.messages ≡ true) ms
      → Agree (λ k. is k && true) (λ k. list_any (at k) (keys_of end.firsts)) ms
  agrees [] all = tt
  agrees (m ∷ ms) all = (ap (λ b. is (callee_of m) && b) (sym all.0) ∙ sym (has (callee_of m)), agrees ms all.1)

  pub left_taken : end.left ≡ left_by (keys_of end.firsts) s.messages
  left_taken =
      sorted.rest ∙ rest_same (λ k. is k && true) (λ k. list_any (at k) (keys_of end.firsts)) s.messages (agrees s.messages (all_found s.messages))
      ∙ rest_keys (keys_of end.firsts) s.messages (IsDistinct-from_sorted (slice_cmp nat_cmp) (keys_of end.firsts) sorted.ordered)

  pub slot_message : (q : List ℕ) (m : Message) → lookup (at q) end.firsts ≡ Some m → find (λ (x : Message). at q (callee_of x)) s.messages ≡ Some m
  slot_message q m there = known (is q) (sym (found q) ∙ there) where
    known : (b : Bool) → cond b (find (λ (x : Message). at q (callee_of x)) s.messages) None ≡ Some m → find (λ (x : Message). at q (callee_of x)) s.messages ≡ Some m
    known true e = e
    known false e = cc
