-- A field is found by its id among fields whose ids rise.
use Rattle.std.proofs.Common.{◌≡◌, ◌≢◌, ℕ, zero, suc, ◌≤◌, ◌<◌, ◌^◌, true, false, ◌&&◌, List, [], ◌∷◌, length, map, get_or, Option, Some, None, Result, Ok, Err, ◌==◌, refl, sym, subst, ◌∙◌, inl, inr, arith, nat_lt, nat_le}
use Rattle.std.specs.List.Sorted.{IsSearchInRange, IsBinarySearchResult, IsNonDecreasingBy}
use Rattle.std.specs.Ordering.{nat_cmp, ordering_index}
use Rattle.std.proofs.lemmas.Bool.{leb-true, eq-eqb}
use Rattle.std.proofs.lemmas.Bool.Decides.{nat_tests}
use Rattle.std.proofs.lemmas.Cmp.{ranked}
use Rattle.ic_base.specs.Reader.{◌>>=◌}
use Rattle.ic_base.proofs.Steps.{bind_some, some_is}
use Rattle.cd_types.specs.declared.entry.TyRef.{TyRef}
use Rattle.cd_types.specs.IsOrdered.{ids_rise_from}
use Rattle.cd_text.specs.Said.{type_of, place_of}
use Rattle.cd_tokens.proofs.Fronts.{true_or_false}
use Rattle.cd_tokens.proofs.Starts.{is_equal}
use Rattle.cd_text.proofs.Values.{both, are_fields, fields_distinct}
use Rattle.cd_text.proofs.Narrow.{typed_there}

abbrev Rise : ℕ → List (ℕ × TyRef) → Type 0
Rise least fields = ids_rise_from least (map (λ f. f.0) fields) ≡ true

rise_parts : (f : ℕ × TyRef) (fields : List (ℕ × TyRef)) (least : ℕ) → Rise least (f ∷ fields) → (least ≤ f.0) × Rise (suc f.0) fields
rise_parts f fields least rise =
    let h = both (nat_le least f.0 && nat_lt f.0 (2 ^ 32)) (ids_rise_from (suc f.0) (map (λ g. g.0) fields)) rise in
    (leb-true _ _ (both (nat_le least f.0) (nat_lt f.0 (2 ^ 32)) h.0).0, h.1)

at_least : (d : ℕ × TyRef) (fields : List (ℕ × TyRef)) (least i : ℕ) → Rise least fields → i < length fields → least ≤ (get_or fields i d).0
at_least d [] least i rise below = absurd (omega arith)
at_least d (f ∷ fields) least zero rise below = (rise_parts f fields least rise).0
at_least d (f ∷ fields) least (suc i) rise below =
    let parts = rise_parts f fields least rise in
    let more : suc f.0 ≤ (get_or fields i d).0 = at_least d fields (suc f.0) i parts.1 (omega arith) in
    omega (arith, more, parts.0)

ids_rise : (d : ℕ × TyRef) (fields : List (ℕ × TyRef)) (least i j : ℕ) → Rise least fields → i ≤ j → j < length fields → (get_or fields i d).0 ≤ (get_or fields j d).0
ids_rise d [] least i j rise le below = absurd (omega arith)
ids_rise d (f ∷ fields) least zero zero rise le below = omega arith
ids_rise d (f ∷ fields) least zero (suc j) rise le below =
    let more : suc f.0 ≤ (get_or fields j d).0 = at_least d fields (suc f.0) j (rise_parts f fields least rise).1 (omega arith) in
    omega (arith, more)
ids_rise d (f ∷ fields) least (suc i) zero rise le below = absurd (omega arith)
ids_rise d (f ∷ fields) least (suc i) (suc j) rise le below = ids_rise d fields (suc f.0) i j (rise_parts f fields least rise).1 (omega arith) (omega arith)

comparisons_rise : (fields : List (ℕ × TyRef)) (id : ℕ) → Rise 0 fields → IsNonDecreasingBy (λ f. ordering_index (nat_cmp f.0 id)) fields
comparisons_rise fields id rise i j d le below = let rises = ids_rise d fields 0 i j rise le below in grind (arith, nat_tests, rises)

there : (d : ℕ × TyRef) (fields : List (ℕ × TyRef)) (id i : ℕ) → are_fields fields → i < length fields → (get_or fields i d).0 ≡ id → place_of fields id ≡ Some i
there d [] id i are below is = absurd (omega arith)
there d (f ∷ fields) id zero are below is = rw (eq-eqb f.0 id is) refl
there d (f ∷ fields) id (suc i) are below is =
    let further = there d fields id i are.1 (omega arith) is in
    elim (true_or_false (f.0 == id)) [
      | inl same ↦
          let twice : Some (get_or fields i d).1 ≡ None = sym (typed_there fields id i d further) ∙ subst (λ k. type_of fields k ≡ None) (is_equal f.0 id same) are.0 in
          absurd cc
      | inr other ↦ rw (other, further) refl
    ]

absent : (d : ℕ × TyRef) (fields : List (ℕ × TyRef)) (id : ℕ) → ((j : ℕ) → j < length fields → (get_or fields j d).0 ≢ id) → place_of fields id ≡ None
absent d [] id none = refl
absent d (f ∷ fields) id none =
    let other : (f.0 == id) ≡ false = grind (arith, nat_tests, none 0 (omega arith)) in
    rw (other, absent d fields id (λ j below. none (suc j) (omega arith))) refl

-- what a binary search finds: the place of the field with the id
abbrev pub Finds : List (ℕ × TyRef) → ℕ → Result ℕ ℕ → Type 0
Finds fields id (Ok place) = place_of fields id ≡ Some place
Finds fields id (Err place) = place_of fields id ≡ None

pub searched : (d : ℕ × TyRef) (fields : List (ℕ × TyRef)) (id : ℕ) (r : Result ℕ ℕ) → Rise 0 fields → IsSearchInRange r (length fields) → IsBinarySearchResult (λ f. nat_cmp f.0 id) fields r → Finds fields id r
searched d fields id (Ok place) rise inside equal = there d fields id place (fields_distinct fields 0 rise) inside (ranked _ id _ (sym (equal d)))
searched d fields id (Err place) rise inside parted =
    let apart = parted (comparisons_rise fields id rise) in
    absent d fields id (λ j below same.
    let before : j < place → (get_or fields j d).0 < id = λ lt. ranked _ id _ (sym (apart.0 j d (omega arith) lt)) in
    let after : place ≤ j → id < (get_or fields j d).0 = λ le. ranked _ id _ (sym (apart.1 j d le below)) in
    grind (arith, before, after, same))

-- the field at the place has the id
pub id_there : (fields : List (ℕ × TyRef)) (id k : ℕ) (d : ℕ × TyRef) → place_of fields id ≡ Some k → (get_or fields k d).0 ≡ id
id_there [] id k d e = absurd cc
id_there (f ∷ fields) id k d e = elim (true_or_false (f.0 == id)) [
  | inl same ↦
      let zero_is : 0 ≡ k = some_is {A = ℕ} 0 k (rw same at e) in
      rw (sym zero_is) (is_equal f.0 id same)
  | inr other ↦
      let g : (place_of fields id >>= λ j. Some (suc j)) ≡ Some k = rw other at e in
      let j = bind_some (place_of fields id) (λ j. Some (suc j)) k g in
      let suc_is : suc j.0 ≡ k = some_is {A = ℕ} (suc j.0) k j.2 in
      rw (sym suc_is) (id_there fields id j.0 d j.1)
]

pub untyped : (fields : List (ℕ × TyRef)) (id : ℕ) → place_of fields id ≡ None → type_of fields id ≡ None
untyped [] id e = refl
untyped (f ∷ fields) id e = elim (true_or_false (f.0 == id)) [
  | inl same ↦ let g : Some 0 ≡ None = rw same at e in absurd cc
  | inr other ↦
      let g : (place_of fields id >>= λ j. Some (suc j)) ≡ None = rw other at e in
      rw other (untyped fields id (not_placed (place_of fields id) g))
]
  where
    not_placed : (p : Option ℕ) → (p >>= λ j. Some (suc j)) ≡ None → p ≡ None
    not_placed None e = refl
    not_placed (Some j) e = absurd cc
