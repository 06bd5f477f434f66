-- Ids that rise, and ids that differ.
use Rattle.std.proofs.Common.{◌≡◌, ℕ, suc, ◌≤◌, ◌<◌, ◌^◌, Bool, true, false, List, [], ◌∷◌, length, map, get_or, refl, sym, ap, subst, ◌∙◌, arith}
use Rattle.std.specs.Prelude.{◌&&◌, nat_eq, nat_lt, nat_le, Result, Ok, Err, IfErr}
use Rattle.std.specs.List.{list_all, IsDistinct, AllByRecursion}
use Rattle.std.specs.List.Sorted.{IsPermutation, IsNonDecreasingBy}
use Rattle.std.proofs.lemmas.List.Sorted.{IsPermutation-map, IsPermutation-sym, All-permutation}
use Rattle.std.proofs.lemmas.List.Sums.{AllPass-from_list_all, list_all-from_AllPass}
use Rattle.std.proofs.lemmas.Map.Keys.{IsDistinct-IsPermutation}
use Rattle.std.proofs.lemmas.Bool.{leb-true, le-leb}
use Rattle.cd_types.specs.declared.entry.TyRef.{TyRef}
use Rattle.cd_types.specs.IsOrdered.{ids_rise_from}
use Rattle.cd_types.proofs.FaultLemmas.{both_true}
use Rattle.cd_grammar.specs.declared.written.Part.{Part}
use Rattle.cd_did.specs.Faults.{Definitions, AreIds}
use Rattle.ic_base.specs.declared.read_error.ReadError.{ReadError}
use Rattle.ic_base.specs.declared.read_error.ReadError.TheVariants.{NoMemory, Refused}
use Rattle.cd_did.specs.Sorted.{Refuses, row, fits, AreSorted}

abbrev Row : Type 0
Row = ℕ × TyRef

abbrev ids : List Row → List ℕ
ids rows = map (λ (r : Row). r.0) rows

-- each is at least so large
abbrev pub Above : ℕ → List ℕ → Type 0
Above least xs = AllByRecursion (λ x. least ≤ x) xs

above_less : (less least : ℕ) (xs : List ℕ) → less ≤ least → Above least xs → Above less xs
above_less less least [] le above = tt
above_less less least (x ∷ xs) le above = (omega (arith, le, above.0), above_less less least xs le above.1)

pub rise_above : (least : ℕ) (xs : List ℕ) → ids_rise_from least xs ≡ true → Above least xs
rise_above least [] e = tt
rise_above least (x ∷ xs) e =
    let parts = both_true (nat_le least x && nat_lt x (2 ^ 32)) (ids_rise_from (suc x) xs) e in
    let here = both_true (nat_le least x) (nat_lt x (2 ^ 32)) parts.0 in
    let from : least ≤ x = leb-true _ _ here.0 in
    (from, above_less least (suc x) xs (omega (arith, from)) (rise_above (suc x) xs parts.1))

not_equal : (a b : ℕ) → suc a ≤ b → nat_eq a b ≡ false
not_equal a b less = grind (arith, less)

above_differ : (x : ℕ) (xs : List ℕ) → Above (suc x) xs → AllByRecursion (λ y. nat_eq x y ≡ false) xs
above_differ x [] above = tt
above_differ x (y ∷ xs) above = (not_equal x y above.0, above_differ x xs above.1)

-- ids that rise differ
rise_distinct : (least : ℕ) (xs : List ℕ) → ids_rise_from least xs ≡ true → IsDistinct nat_eq xs
unfolding IsDistinct
rise_distinct least [] e = tt
rise_distinct least (x ∷ xs) e =
    let parts = both_true (nat_le least x && nat_lt x (2 ^ 32)) (ids_rise_from (suc x) xs) e in
    (above_differ x xs (rise_above (suc x) xs parts.1), rise_distinct (suc x) xs parts.1)

flips : (x y : ℕ) → nat_eq x y ≡ nat_eq y x
flips x y = grind arith

pub sorted_distinct : (rows sorted : List (ℕ × TyRef)) → AreSorted rows sorted → IsDistinct nat_eq (map (λ (r : ℕ × TyRef). r.0) rows)
sorted_distinct rows sorted are =
    IsDistinct-IsPermutation nat_eq flips (ids sorted) (ids rows) (IsPermutation-sym (ids rows) (ids sorted) (IsPermutation-map (λ (r : Row). r.0) rows sorted are.0)) (rise_distinct 0 (ids sorted) are.1)

pub head_apart : (x : ℕ) (xs : List ℕ) → IsDistinct nat_eq (x ∷ xs) → AllByRecursion (λ y. nat_eq x y ≡ false) xs × IsDistinct nat_eq xs
unfolding IsDistinct
head_apart x xs d = d

-- each row is at least so large and none is equal: each is larger
above_from : (x : ℕ) (rows : List Row) → AllByRecursion (λ y. nat_eq x y ≡ false) (ids rows) → ((j : ℕ) (d : Row) → j < length rows → x ≤ (get_or rows j d).0) → Above (suc x) (ids rows)
above_from x [] apart low = tt
above_from x (row ∷ rows) apart low =
    let here : x ≤ row.0 = low 0 row (omega arith) in
    let other = apart.0 in
    (grind (arith, here, other), above_from x rows apart.1 (λ j d below. low (suc j) d (omega (arith, below))))

-- rows whose ids do not fall, and differ, rise
pub rise_sorted : (least : ℕ) (rows : List (ℕ × TyRef)) → IsNonDecreasingBy (λ (r : ℕ × TyRef). r.0) rows → IsDistinct nat_eq (map (λ (r : ℕ × TyRef). r.0) rows) → list_all fits (map (λ (r : ℕ × TyRef). r.0) rows) ≡ true
    → AllByRecursion (λ x. least ≤ x) (map (λ (r : ℕ × TyRef). r.0) rows) → ids_rise_from least (map (λ (r : ℕ × TyRef). r.0) rows) ≡ true
rise_sorted least [] up distinct small above = refl
rise_sorted least (row ∷ rows) up distinct small above =
    let apart = head_apart row.0 (ids rows) distinct in
    let fit = both_true (fits row.0) (list_all fits (ids rows)) small in
    let low = above_from row.0 rows apart.0 (λ j d below. up 0 (suc j) d (omega arith) (omega (arith, below))) in
    let more = rise_sorted (suc row.0) rows (λ i j d le below. up (suc i) (suc j) d (omega (arith, le)) (omega (arith, below))) apart.1 fit.1 low in
    let from : nat_le least row.0 ≡ true = le-leb least row.0 above.0 in
    rw (from, fit.0, more) refl

all_above : (xs : List ℕ) → Above 0 xs
all_above [] = tt
all_above (x ∷ xs) = (omega arith, all_above xs)

-- a test of all holds in another order too
all_moved : (test : ℕ → Bool) (xs ys : List ℕ) → IsPermutation xs ys → list_all test xs ≡ true → list_all test ys ≡ true
all_moved test xs ys moved e = list_all-from_AllPass test ys (All-permutation (λ x. test x ≡ true) xs ys moved (AllPass-from_list_all test xs e))

pub no_rise : (rows sorted : List (ℕ × TyRef)) → IsPermutation rows sorted → IsNonDecreasingBy (λ (r : ℕ × TyRef). r.0) sorted → list_all fits (map (λ (r : ℕ × TyRef). r.0) rows) ≡ true → ids_rise_from 0 (map (λ (r : ℕ × TyRef). r.0) sorted) ≡ false
    → IsDistinct nat_eq (map (λ (r : ℕ × TyRef). r.0) rows) → ⊥
no_rise rows sorted moved up small fails distinct =
    let apart = IsDistinct-IsPermutation nat_eq flips (ids rows) (ids sorted) (IsPermutation-map (λ (r : Row). r.0) rows sorted moved) distinct in
    let fit = all_moved fits (ids rows) (ids sorted) (IsPermutation-map (λ (r : Row). r.0) rows sorted moved) small in
    let holds = rise_sorted 0 sorted up apart fit (all_above (ids sorted)) in
    let g : true ≡ false = sym holds ∙ fails in
    absurd cc

-- what is refused for one reason is for another that it is
pub refuses_too : (e : ReadError) (P Q : Type 0) → (P → Q) → Refuses e P → Refuses e Q
refuses_too NoMemory P Q law p = tt
refuses_too Refused P Q law p = law p

-- out of memory refuses nothing
pub no_refusal : {A : Type 0} (r : Result A ReadError) (P : Type 0) → IfErr r (λ e. e ≡ NoMemory) → IfErr r (λ e. Refuses e P)
no_refusal (Ok x) P none = tt
no_refusal (Err NoMemory) P none = tt
no_refusal (Err Refused) P none = absurd cc

-- ---- rows of fields

ids_of_rows : (defs : Definitions) (ends : List ℕ) (fields : List (ℕ × Part)) → map (λ (r : ℕ × TyRef). r.0) (map (row defs ends) fields) ≡ map (λ (f : ℕ × Part). f.0) fields
ids_of_rows defs ends [] = refl
ids_of_rows defs ends (f ∷ fields) = ap (λ (xs : List ℕ). f.0 ∷ xs) (ids_of_rows defs ends fields)

same_ids : (defs : Definitions) (ends : List ℕ) (fields : List (ℕ × Part)) (rows : List (ℕ × TyRef)) → rows ≡ map (row defs ends) fields → map (λ (r : ℕ × TyRef). r.0) rows ≡ map (λ (f : ℕ × Part). f.0) fields
same_ids defs ends fields rows is = ap (λ (rs : List (ℕ × TyRef)). map (λ (r : ℕ × TyRef). r.0) rs) is ∙ ids_of_rows defs ends fields

pub rows_fit : (defs : Definitions) (ends : List ℕ) (fields : List (ℕ × Part)) (rows : List (ℕ × TyRef)) → (rows ≡ map (row defs ends) fields) × (list_all fits (map (λ f. f.0) fields) ≡ true) → list_all fits (map (λ r. r.0) rows) ≡ true
rows_fit defs ends fields rows is = ap (list_all fits) (same_ids defs ends fields rows is.0) ∙ is.1

pub made_ids : (defs : Definitions) (ends : List ℕ) (fields : List (ℕ × Part)) (rows sorted : List (ℕ × TyRef)) → (rows ≡ map (row defs ends) fields) × (list_all fits (map (λ f. f.0) fields) ≡ true) → AreSorted rows sorted → AreSorted (map (row defs ends) fields) sorted × AreIds (map (λ f. f.0) fields)
made_ids defs ends fields rows sorted is are = (subst (λ (rs : List (ℕ × TyRef)). AreSorted rs sorted) is.0 are, (subst (λ (xs : List ℕ). IsDistinct nat_eq xs) (same_ids defs ends fields rows is.0) (sorted_distinct rows sorted are), is.1))

pub no_ids : (defs : Definitions) (ends : List ℕ) (fields : List (ℕ × Part)) (rows : List (ℕ × TyRef)) → (rows ≡ map (row defs ends) fields) × (list_all fits (map (λ f. f.0) fields) ≡ true) → (IsDistinct nat_eq (map (λ r. r.0) rows) → ⊥) → AreIds (map (λ f. f.0) fields) → ⊥
no_ids defs ends fields rows is never are = never (subst (λ (xs : List ℕ). IsDistinct nat_eq xs) (sym (same_ids defs ends fields rows is.0)) are.0)

pub no_fit : (fields : List (ℕ × Part)) → list_all fits (map (λ f. f.0) fields) ≡ false → AreIds (map (λ f. f.0) fields) → ⊥
no_fit fields e are = let g : false ≡ true = sym e ∙ are.1 in absurd cc
