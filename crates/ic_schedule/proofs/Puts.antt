-- One canister of a map is changed.
use Rattle.std.proofs.Common.{◌≡◌, ℕ, false, List, [], ◌∷◌, map, Some, inl, inr, sym, ap, subst, refl}
use Rattle.std.specs.List.{AllByRecursion, IsDistinct}
use Rattle.std.specs.Map.{keys_of, lookup, set_value}
use Rattle.std.specs.Ordering.{nat_cmp, eq_by_cmp}
use Rattle.std.specs.Cmp.Lexicographic.{slice_cmp}
use Rattle.std.proofs.lemmas.Bool.{cases_Bool}
use Rattle.std.proofs.lemmas.Map.{NonePasses}
use Rattle.std.proofs.lemmas.Map.Keys.{IsDistinct-tail}
use Rattle.std.proofs.lemmas.Map.Entries.{none_past_head}
use Rattle.ic_behaviour.specs.State.{at}
use Rattle.ic_behaviour.specs.Counted.{dropped}
use Rattle.ic_behaviour.proofs.Weights.{laws, at-is}
use Rattle.ic_state.specs.declared.canister.Canister.{Canister as StoredCanister}
use Rattle.ic_state.specs.Seen.{seen, entry_of}

abbrev pub Entries : Type 0
Entries = List (List ℕ × StoredCanister)

-- what holds of each holds of one that is looked up
pub found_each : (P : List ℕ × StoredCanister → Type 0) (key : List ℕ) (es : Entries) (c : StoredCanister) → lookup (at key) es ≡ Some c → AllByRecursion P es → P (key, c)
found_each P key [] c is all = cc
found_each P key (e ∷ es) c is all =
    elim (cases_Bool (at key e.0)) [
      | inl here ↦
          let now : Some e.1 ≡ Some c = rw here at is in
          let value : e.1 ≡ c = cc in
          let same = sym (at-is key e.0 here) in
          subst P (λ i. (same i, value i)) all.0
      | inr there ↦ let later : lookup (at key) es ≡ Some c = rw there at is in found_each P key es c later all.1
    ]

-- P of the others gives Q
module _ (P Q : List ℕ × StoredCanister → Type 0) (key : List ℕ) (others : (e : List ℕ × StoredCanister) → at key e.0 ≡ false → P e → Q e) where
  pub each_apart : (es : Entries) → NonePasses (at key) es → AllByRecursion P es → AllByRecursion Q es
  each_apart [] apart all = tt
  each_apart (e ∷ es) apart all = (others e apart.0 all.0, each_apart es apart.1 all.1)

  pub each_set : (es : Entries) (d : StoredCanister) → IsDistinct (eq_by_cmp (slice_cmp nat_cmp)) (keys_of es) → Q (key, d) → AllByRecursion P es → AllByRecursion Q (set_value (at key) es d)
  each_set [] d distinct here all = tt
  each_set (e ∷ es) d distinct here all =
      elim (cases_Bool (at key e.0)) [
        | inl is ↦ rw is (subst (λ (k : List ℕ). Q (k, d)) (at-is key e.0 is) here, each_apart es (none_past_head laws key e es distinct is) all.1)
        | inr not ↦ rw not (others e not all.0, each_set es d (IsDistinct-tail _ e.0 (keys_of es) distinct) here all.1)
      ]

pub seen_set : (key : List ℕ) (es : Entries) (d : StoredCanister) → map entry_of (set_value (at key) es d) ≡ set_value (at key) (map entry_of es) (dropped (seen d))
seen_set key [] d = refl
seen_set key (e ∷ es) d = elim (cases_Bool (at key e.0)) [ inl here ↦ rw here refl | inr there ↦ rw there (ap (λ l. entry_of e ∷ l) (seen_set key es d)) ]
