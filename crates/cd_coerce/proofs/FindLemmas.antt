-- looking up an id among fields whose ids rise
use Rattle.std.proofs.Common.{◌≡◌, ◌≢◌, ℕ, zero, suc, ◌+◌, ◌≤◌, ◌<◌, ◌^◌, true, false, ◌&&◌, List, [], ◌∷◌, length, map, get_or, Some, None, Result, Ok, Err, ◌==◌, refl, sym, ap, ◌∙◌, arith, nat_lt, nat_le}
use Rattle.std.specs.List.Sorted.{IsSearchInRange, IsBinarySearchResult, IsNonDecreasingBy}
use Rattle.std.specs.Ordering.{nat_cmp, ordering_index}
use Rattle.std.proofs.lemmas.Bool.{leb-true, eq-eqb}
use Rattle.std.proofs.lemmas.Bool.Decides.{nat_tests}
use Rattle.std.proofs.lemmas.Cmp.{ranked}
use Rattle.std.proofs.lemmas.List.Sorted.{IsNonDecreasingBy-from_default}
use Rattle.cd_types.specs.declared.primitive.Primitive.TheVariants.{Null}
use Rattle.cd_types.specs.declared.entry.TyRef.{TyRef}
use Rattle.cd_types.specs.declared.entry.TyRef.TheVariants.{Prim}
use Rattle.cd_types.specs.IsOrdered.{ids_rise_from}
use Rattle.cd_coerce.specs.Parts.{case_from}
use Rattle.cd_types.proofs.FaultLemmas.{both_true}

-- a field, where there is none at an index
abbrev no_field : ℕ × TyRef
no_field = (0, Prim Null)

abbrev id_at : List (ℕ × TyRef) → ℕ → ℕ
id_at fields i = let field = get_or fields i no_field in field.0

abbrev ids_of : List (ℕ × TyRef) → List ℕ
ids_of fields = map (λ f. f.0) fields

-- the first id and those after it
rise_parts : (least id : ℕ) (ids : List ℕ) → ids_rise_from least (id ∷ ids) ≡ true → (least ≤ id) × (ids_rise_from (suc id) ids ≡ true)
rise_parts least id ids e =
    let parts = both_true (nat_le least id && nat_lt id (2 ^ 32)) (ids_rise_from (suc id) ids) e in
    (leb-true _ _ (both_true (nat_le least id) (nat_lt id (2 ^ 32)) parts.0).0, parts.1)

least_below : (fields : List (ℕ × TyRef)) (least i : ℕ) → ids_rise_from least (ids_of fields) ≡ true → i < length fields → least ≤ id_at fields i
least_below [] least i rise below = absurd (omega arith)
least_below (f ∷ fields) least zero rise below = (rise_parts least f.0 (ids_of fields) rise).0
least_below (f ∷ fields) least (suc i) rise below =
    let parts = rise_parts least f.0 (ids_of fields) rise in
    let more : suc f.0 ≤ id_at fields i = least_below fields (suc f.0) i parts.1 (omega arith) in
    omega (arith, parts.0)

ids_rise : (fields : List (ℕ × TyRef)) (least i j : ℕ) → ids_rise_from least (ids_of fields) ≡ true → i < j → j < length fields → id_at fields i < id_at fields j
ids_rise [] least i j rise less below = absurd (omega arith)
ids_rise (f ∷ fields) least i zero rise less below = absurd (omega arith)
ids_rise (f ∷ fields) least zero (suc j) rise less below =
    let more : suc f.0 ≤ id_at fields j = least_below fields (suc f.0) j (rise_parts least f.0 (ids_of fields) rise).1 (omega arith) in
    omega arith
ids_rise (f ∷ fields) least (suc i) (suc j) rise less below = ids_rise fields (suc f.0) i j (rise_parts least f.0 (ids_of fields) rise).1 (omega arith) (omega arith)

-- no field before the index has the id
abbrev NoneBefore : List (ℕ × TyRef) → ℕ → ℕ → Type 0
NoneBefore fields id i = (j : ℕ) → j < i → id_at fields j ≢ id

none_in_tail : (f : ℕ × TyRef) (fields : List (ℕ × TyRef)) (id i : ℕ) → NoneBefore (f ∷ fields) id (suc i) → NoneBefore fields id i
none_in_tail f fields id i none j below = none (suc j) (omega arith)

-- the case with an id, where it is the first that has it
case_there : (fields : List (ℕ × TyRef)) (place id i : ℕ) → i < length fields → id_at fields i ≡ id → NoneBefore fields id i → case_from place id fields ≡ Some (place + i, (get_or fields i no_field).1)
case_there [] place id i below is none = absurd (omega arith)
case_there (f ∷ fields) place id zero below is none =
    let same : (f.0 == id) ≡ true = eq-eqb f.0 id is in
    let here : place ≡ place + 0 = omega arith in
    rw same (ap (λ (n : ℕ). Some (n, f.1)) here)
case_there (f ∷ fields) place id (suc i) below is none =
    let other : (f.0 == id) ≡ false = grind (arith, nat_tests, none 0 (omega arith)) in
    let further : suc place + i ≡ place + suc i = omega arith in
    rw other (case_there fields (suc place) id i (omega arith) is (none_in_tail f fields id i none) ∙ ap (λ (n : ℕ). Some (n, (get_or fields i no_field).1)) further)

case_absent : (fields : List (ℕ × TyRef)) (place id : ℕ) → NoneBefore fields id (length fields) → case_from place id fields ≡ None
case_absent [] place id none = refl
case_absent (f ∷ fields) place id none =
    let other : (f.0 == id) ≡ false = grind (arith, nat_tests, none 0 (omega arith)) in
    rw other (case_absent fields (suc place) id (λ j below. none (suc j) (omega arith)))

-- the comparisons with an id rise along the fields
comparisons_rise : (fields : List (ℕ × TyRef)) (id : ℕ) → ids_rise_from 0 (ids_of fields) ≡ true → IsNonDecreasingBy (λ field. ordering_index (nat_cmp field.0 id)) fields
comparisons_rise fields id rise = IsNonDecreasingBy-from_default (λ field. ordering_index (nat_cmp field.0 id)) fields no_field (λ i j le below.
    let rises : id_at fields i ≤ id_at fields j = grind (arith, ids_rise fields 0 i j rise, λ (same : i ≡ j). ap (id_at fields) same) in
    grind (arith, nat_tests))

-- a binary search finds the case
abbrev pub Finds : List (ℕ × TyRef) → ℕ → Result ℕ ℕ → Type 0
Finds fields id (Ok place) = (place < length fields) × (case_from 0 id fields ≡ Some (place, (get_or fields place no_field).1))
Finds fields id (Err place) = case_from 0 id fields ≡ None

pub searched : (fields : List (ℕ × TyRef)) (id : ℕ) (r : Result ℕ ℕ) → ids_rise_from 0 (ids_of fields) ≡ true → IsSearchInRange r (length fields)
    → IsBinarySearchResult (λ field. nat_cmp field.0 id) fields r → Finds fields id r
searched fields id (Ok place) rise inside equal =
    let is : id_at fields place ≡ id = ranked _ id _ (sym (equal no_field)) in
    let at : case_from 0 id fields ≡ Some (0 + place, (get_or fields place no_field).1) = case_there fields 0 id place inside is (λ j less same.
    let k : id_at fields j < id_at fields place = ids_rise fields 0 j place rise less inside in absurd (omega (arith, is, same))) in
    let from : 0 + place ≡ place = omega arith in
    (inside, at ∙ ap (λ (n : ℕ). Some (n, (get_or fields place no_field).1)) from)
searched fields id (Err place) rise inside parted =
    case_absent fields 0 id (λ j below same.
    let before : (j : ℕ) → j < place → id_at fields j < id = λ j lt. ranked _ id _ (sym ((parted (comparisons_rise fields id rise)).0 j no_field (omega arith) lt)) in
    let after : (j : ℕ) → place ≤ j → j < length fields → id < id_at fields j = λ j le lt. ranked _ id _ (sym ((parted (comparisons_rise fields id rise)).1 j no_field le lt)) in
    grind (arith, before j, after j))
