-- Rows in order: lists of rising labels with the same rows are one list.
use Rattle.std.proofs.Common.{◌≡◌, true, false, List, [], ◌∷◌, refl, sym, ap, subst, ◌∙◌, inl, inr, ◌⊎◌}
use Rattle.std.specs.List.{AllByRecursion}
use Rattle.std.specs.List.Sorted.{IsPermutation}
use Rattle.std.specs.Cmp.{IsTotalOrder}
use Rattle.std.specs.Ordering.{is_lt, is_eq, ordering_reverse}
use Rattle.std.specs.declared.cmp.Ordering.{Ordering}
use Rattle.std.specs.declared.cmp.Ordering.TheVariants.{Less, Equal, Greater}
use Rattle.std.proofs.lemmas.List.Sorted.{IsPermutation-refl, IsPermutation-sym, IsPermutation-trans, IsPermutation-cons, IsPermutation-middle, All-permutation}
use Rattle.std.proofs.lemmas.List.Elements.{All-from_recursion, recursion_from_All}
use Rattle.cd_types.specs.declared.entry.TyRef.{TyRef}
use Rattle.cd_sub.specs.Rising.{Rising}
use Rattle.cd_did.specs.InterfaceOf.{put, in_order}
use Rattle.cd_tokens.proofs.Fronts.{true_or_false}

-- ---- all rows

all_weaker : {X : Type 0} (P Q : X → Type 0) → ((x : X) → P x → Q x) → (xs : List X) → AllByRecursion P xs → AllByRecursion Q xs
all_weaker P Q law [] all = tt
all_weaker P Q law (x ∷ xs) all = (law x all.0, all_weaker P Q law xs all.1)

all_moved : {X : Type 0} (P : X → Type 0) (xs ys : List X) → IsPermutation xs ys → AllByRecursion P xs → AllByRecursion P ys
all_moved P xs ys moved all = recursion_from_All P ys (All-permutation P xs ys moved (All-from_recursion P xs all))

-- ---- putting a row moves rows alone

put_moves : {K : Type 0} (cmp : K → K → Ordering) (x : K × TyRef) (rows : List (K × TyRef)) → IsPermutation (x ∷ rows) (put cmp x rows)
put_moves cmp x [] = IsPermutation-refl (x ∷ [])
put_moves {K} cmp x (first ∷ rows) = elim (true_or_false (is_lt (cmp x.0 first.0))) [
  | inl less ↦ rw less (IsPermutation-refl (x ∷ first ∷ rows))
  | inr other ↦
      let swapped : IsPermutation (x ∷ first ∷ rows) (first ∷ x ∷ rows) = IsPermutation-sym (first ∷ x ∷ rows) (x ∷ first ∷ rows) (IsPermutation-middle {X = K × TyRef} (first ∷ []) x rows) in
      let more : IsPermutation (first ∷ x ∷ rows) (first ∷ put cmp x rows) = IsPermutation-cons first (x ∷ rows) (put cmp x rows) (put_moves cmp x rows) in
      rw other (IsPermutation-trans (x ∷ first ∷ rows) (first ∷ x ∷ rows) (first ∷ put cmp x rows) swapped more)
]

pub in_order_moves : {K : Type 0} (cmp : K → K → Ordering) (rows : List (K × TyRef)) → IsPermutation rows (in_order cmp rows)
in_order_moves cmp [] = IsPermutation-refl []
in_order_moves cmp (x ∷ rows) =
    IsPermutation-trans (x ∷ rows) (x ∷ in_order cmp rows) (put cmp x (in_order cmp rows))
    (IsPermutation-cons x rows (in_order cmp rows) (in_order_moves cmp rows)) (put_moves cmp x (in_order cmp rows))

-- ---- and keeps rising labels rising

less_if : (o : Ordering) → is_lt o ≡ true → o ≡ Less
less_if Less e = refl
less_if Equal e = absurd cc
less_if Greater e = absurd cc

turned : (o p : Ordering) → p ≡ ordering_reverse o → is_lt o ≡ false → is_eq o ≡ false → p ≡ Less
turned Less p back not_less other = absurd cc
turned Equal p back not_less other = absurd cc
turned Greater p back not_less other = back

-- each label is above this one
abbrev Above : {K : Type 0} → (K → K → Ordering) → K → List (K × TyRef) → Type 0
Above cmp label rows = AllByRecursion (λ later. cmp label later.0 ≡ Less) rows

-- no row has this label
abbrev pub Lacks : {K : Type 0} → (K → K → Ordering) → List (K × TyRef) → K → Type 0
Lacks cmp rows label = AllByRecursion (λ later. is_eq (cmp label later.0) ≡ false) rows

-- labels that differ
abbrev pub Apart : {K : Type 0} → (K → K → Ordering) → List (K × TyRef) → Type 0
Apart cmp [] = Unit {0}
Apart cmp (x ∷ rows) = Lacks cmp rows x.0 × Apart cmp rows

module _ {K : Type 0} (cmp : K → K → Ordering) (order : IsTotalOrder cmp) where
  abbrev Row : Type 0
  Row = K × TyRef

  put_all : (P : Row → Type 0) (x : Row) (rows : List Row) → P x → AllByRecursion P rows → AllByRecursion P (put cmp x rows)
  put_all P x rows here all = all_moved P (x ∷ rows) (put cmp x rows) (put_moves cmp x rows) (here, all)

  put_rises : (x : Row) (rows : List Row) → Lacks cmp rows x.0 → Rising cmp rows → Rising cmp (put cmp x rows)
  put_rises x [] lacks rises = (tt, tt)
  put_rises x (first ∷ rows) lacks rises = elim (true_or_false (is_lt (cmp x.0 first.0))) [
    | inl less ↦
        let below : cmp x.0 first.0 ≡ Less = less_if (cmp x.0 first.0) less in
        rw less ((below, all_weaker (λ (later : Row). cmp first.0 later.0 ≡ Less) (λ (later : Row). cmp x.0 later.0 ≡ Less) (λ later h. order.trans x.0 first.0 later.0 below h) rows rises.0), rises)
    | inr other ↦
        let above : cmp first.0 x.0 ≡ Less = turned (cmp x.0 first.0) (cmp first.0 x.0) (order.antisymm first.0 x.0) other lacks.0 in
        rw other (put_all (λ (later : Row). cmp first.0 later.0 ≡ Less) x rows above rises.0, put_rises x rows lacks.1 rises.1)
  ]

  in_order_rises : (rows : List Row) → Apart cmp rows → Rising cmp (in_order cmp rows)
  in_order_rises [] apart = tt
  in_order_rises (x ∷ rows) apart =
      put_rises x (in_order cmp rows) (all_moved (λ (later : Row). is_eq (cmp x.0 later.0) ≡ false) rows (in_order cmp rows) (in_order_moves cmp rows) apart.0)
      (in_order_rises rows apart.1)

  -- ---- lists of rising labels with the same rows

  not_below : (label : K) → cmp label label ≡ Less → ⊥
  not_below label less = let back : Less ≡ ordering_reverse Less = sym less ∙ order.antisymm label label ∙ ap ordering_reverse less in absurd cc

  same_first : (x y : Row) → (y ≡ x) ⊎ (cmp x.0 y.0 ≡ Less) → (x ≡ y) ⊎ (cmp y.0 x.0 ≡ Less) → x ≡ y
  same_first x y (inl same) there = sym same
  same_first x y (inr less) (inl same) = same
  same_first x y (inr less) (inr more) = absurd (not_below x.0 (order.trans x.0 y.0 x.0 less more))

  -- what holds of the rest where it holds of what is above the first
  rest : (x y : Row) (xs ys : List Row) → x ≡ y → Above cmp x.0 xs → Above cmp y.0 ys → ((P : Row → Type 0) → AllByRecursion P (x ∷ xs) → AllByRecursion P (y ∷ ys))
      → (P : Row → Type 0) → AllByRecursion P xs → AllByRecursion P ys
  rest x y xs ys same above over law P all =
      let Q = λ (z : Row). cmp x.0 z.0 ≡ Less → P z in
      let held = law Q ((λ less. absurd (not_below x.0 less)), all_weaker P Q (λ z h less. h) xs all) in
      both ys (subst (λ (w : Row). Above cmp w.0 ys) (sym same) over) held.1
    where
      both : (ys : List Row) → Above cmp x.0 ys → AllByRecursion (λ (z : Row). cmp x.0 z.0 ≡ Less → P z) ys → AllByRecursion P ys
      both [] a h = tt
      both (z ∷ ys) a h = (h.0 a.0, both ys a.1 h.1)

  pub one_rising : (xs ys : List Row) → Rising cmp xs → Rising cmp ys → ((P : Row → Type 0) → AllByRecursion P xs → AllByRecursion P ys) → ((P : Row → Type 0) → AllByRecursion P ys → AllByRecursion P xs) → xs ≡ ys
  one_rising [] [] up down forth back = refl
  one_rising [] (y ∷ ys) up down forth back = absurd (forth (λ (z : Row). ⊥) tt).0
  one_rising (x ∷ xs) [] up down forth back = absurd (back (λ (z : Row). ⊥) tt).0
  one_rising (x ∷ xs) (y ∷ ys) up down forth back =
      let here = (forth (λ (z : Row). (z ≡ x) ⊎ (cmp x.0 z.0 ≡ Less)) (inl refl, all_weaker (λ (z : Row). cmp x.0 z.0 ≡ Less) (λ (z : Row). (z ≡ x) ⊎ (cmp x.0 z.0 ≡ Less)) (λ z h. inr h) xs up.0)).0 in
      let there = (back (λ (z : Row). (z ≡ y) ⊎ (cmp y.0 z.0 ≡ Less)) (inl refl, all_weaker (λ (z : Row). cmp y.0 z.0 ≡ Less) (λ (z : Row). (z ≡ y) ⊎ (cmp y.0 z.0 ≡ Less)) (λ z h. inr h) ys down.0)).0 in
      let same : x ≡ y = same_first x y here there in
      let more = one_rising xs ys up.1 down.1 (rest x y xs ys same up.0 down.0 forth) (rest y x ys xs (sym same) down.0 up.0 back) in
      ap (λ (z : Row). z ∷ xs) same ∙ ap (λ (zs : List Row). y ∷ zs) more

  -- rows in order are the rows whose labels rise
  pub in_order_is : (rows sorted : List Row) → Apart cmp rows → Rising cmp sorted → IsPermutation rows sorted → sorted ≡ in_order cmp rows
  in_order_is rows sorted apart rises moved =
      let made = in_order_moves cmp rows in
      let there = IsPermutation-trans sorted rows (in_order cmp rows) (IsPermutation-sym rows sorted moved) made in
      one_rising sorted (in_order cmp rows) rises (in_order_rises rows apart)
      (λ P all. all_moved P sorted (in_order cmp rows) there all)
      (λ P all. all_moved P (in_order cmp rows) sorted (IsPermutation-sym sorted (in_order cmp rows) there) all)
