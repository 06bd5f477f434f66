-- Ranges that are kept once, and the numbers that stand for bytes.
use Rattle.std.proofs.Common.{◌≡◌, ℕ, zero, suc, ◌+◌, ◌*◌, ◌<◌, Bool, true, false, if◌then◌else◌, List, [], ◌∷◌, ◌++◌, length, take, drop, slice_get, slice_index_or, Some, refl, sym, ap, ap₂, subst, ◌∙◌, append_assoc, true≢false, not-suc-le-zero, arith}
use Rattle.std.specs.Prelude.{nat_eq}
use Rattle.std.specs.List.{AllByRecursion, IsDistinct, list_any}
use Rattle.std.specs.Cmp.Lexicographic.{pointwise, bytes_decides}
use Rattle.std.proofs.Math.Seq.{take-add, take-suc}
use Rattle.std.proofs.lemmas.List.{append-nil, length-append}
use Rattle.std.proofs.lemmas.List.{get_or_append_left}
use Rattle.std.proofs.lemmas.Option.{get_or_from_slice_get, slice_get_within}
use Rattle.std.proofs.lemmas.Map.Keys.{IsDistinct-head, IsDistinct-tail}
use Rattle.indexmap.specs.IndexSet.{insert_key}
use Rattle.ic_exact.specs.Ranges.{bytes_of, AreNumbers, Extends, AreDistinct}

pub each-at : {A : Type 0} (P : A → Type 0) (xs : List A) (n : ℕ) (d : A) → n < length xs → AllByRecursion P xs → P (slice_index_or xs n d)
each-at P [] n d below all = absurd (not-suc-le-zero below)
each-at P (x ∷ xs) zero d below all = all.0
each-at P (x ∷ xs) (suc n) d below all = each-at P xs n d (omega (arith, below)) all.1

-- ---- more ranges are kept

pub numbers_stay : (xs more : List (List ℕ)) (ns : List ℕ) → AreNumbers xs ns → AreNumbers (xs ++ more) ns
numbers_stay xs more [] all = tt
numbers_stay xs more (n ∷ ns) all = (omega (arith, all.0, length-append xs more), numbers_stay xs more ns all.1)

pub bytes_stay : (xs more : List (List ℕ)) (ns : List ℕ) → AreNumbers xs ns → bytes_of (xs ++ more) ns ≡ bytes_of xs ns
bytes_stay xs more [] all = refl
bytes_stay xs more (n ∷ ns) all = ap₂ (λ (a b : List ℕ). a ++ b) (get_or_append_left xs more [] n all.0) (bytes_stay xs more ns all.1)

pub extends_again : {A : Type 0} (xs ys zs : List A) → Extends xs ys → Extends ys zs → Extends xs zs
extends_again xs ys zs (more, a) (others, b) = (more ++ others, b ∙ ap (λ l. l ++ others) a ∙ append_assoc xs more others)

pub bytes_append : (xs : List (List ℕ)) (ns : List ℕ) (n : ℕ) → bytes_of xs (ns ++ n ∷ []) ≡ bytes_of xs ns ++ slice_index_or xs n []
bytes_append xs [] n = append-nil (slice_index_or xs n [])
bytes_append xs (m ∷ ns) n = ap (λ l. slice_index_or xs m [] ++ l) (bytes_append xs ns n) ∙ sym (append_assoc (slice_index_or xs m []) (bytes_of xs ns) (slice_index_or xs n []))

numbers_append : (xs : List (List ℕ)) (ns : List ℕ) (n : ℕ) → n < length xs → AreNumbers xs ns → AreNumbers xs (ns ++ n ∷ [])
numbers_append xs [] n below all = (below, tt)
numbers_append xs (m ∷ ns) n below all = (all.0, numbers_append xs ns n below all.1)

-- the number of one more range
pub one_more : (first old now : List (List ℕ)) (ns numbers : List ℕ) (n : ℕ) (bytes range : List ℕ) (i : ℕ) → Extends first old → Extends old now → AreNumbers old ns
    → bytes_of old ns ≡ take (4096 * i) bytes → slice_get now n ≡ Some range → range ≡ take 4096 (drop (4096 * i) bytes) → numbers ≡ ns ++ n ∷ []
    → Extends first now × AreNumbers now numbers × (bytes_of now numbers ≡ take (4096 * (i + 1)) bytes)
one_more first old now ns numbers n bytes range i begun (more, is) are so_far found part whole =
    let stay : AreNumbers now ns = subst (λ l. AreNumbers l ns) (sym is) (numbers_stay old more ns are) in
    let same : bytes_of now ns ≡ bytes_of old ns = ap (λ l. bytes_of l ns) is ∙ bytes_stay old more ns are in
    let last : slice_index_or now n [] ≡ take 4096 (drop (4096 * i) bytes) = get_or_from_slice_get now n range [] found ∙ part in
    let count : 4096 * (i + 1) ≡ 4096 * i + 4096 = omega arith in (
      extends_again first old now begun (more, is),
      subst (AreNumbers now) (sym whole) (numbers_append now ns n (slice_get_within now n range found) stay),
      ap (bytes_of now) whole ∙ bytes_append now ns n ∙ ap₂ (λ (a b : List ℕ). a ++ b) (same ∙ so_far) last ∙ sym (take-add (4096 * i) 4096 bytes) ∙ ap (λ k. take k bytes) (sym count),
    )

-- ---- a range is kept

module _ (xs now : List (List ℕ)) (r : List ℕ) (made : now ≡ insert_key (pointwise nat_eq) xs r) where
  pub extended : Extends xs now
  extended = by (list_any (pointwise nat_eq r) xs) refl where
    by : (b : Bool) → list_any (pointwise nat_eq r) xs ≡ b → Extends xs now
    by true is = ([], made ∙ ap (λ b. if b then xs else xs ++ r ∷ []) is ∙ sym (append-nil xs))
    by false is = (r ∷ [], made ∙ ap (λ b. if b then xs else xs ++ r ∷ []) is)

  sized_end : (ys : List (List ℕ)) → AllByRecursion (λ (y : List ℕ). length y ≡ 4096) ys → length r ≡ 4096 → AllByRecursion (λ (y : List ℕ). length y ≡ 4096) (ys ++ r ∷ [])
  sized_end [] all long = (long, tt)
  sized_end (y ∷ ys) all long = (all.0, sized_end ys all.1 long)

  pub distinct : AreDistinct xs → length r ≡ 4096 → IsDistinct (pointwise nat_eq) now → AreDistinct now
  distinct are long once = record { sizes = by (list_any (pointwise nat_eq r) xs) refl; distinct = once } where
    by : (b : Bool) → list_any (pointwise nat_eq r) xs ≡ b → AllByRecursion (λ (y : List ℕ). length y ≡ 4096) now
    by true is = subst (AllByRecursion (λ (y : List ℕ). length y ≡ 4096)) (sym (made ∙ ap (λ b. if b then xs else xs ++ r ∷ []) is)) are.sizes
    by false is = subst (AllByRecursion (λ (y : List ℕ). length y ≡ 4096)) (sym (made ∙ ap (λ b. if b then xs else xs ++ r ∷ []) is)) (sized_end xs are.sizes long)

-- ---- each range is kept once

unequal_to : (x y : List ℕ) → pointwise nat_eq x y ≡ false → x ≡ y → ⊥
unequal_to x y other e = true≢false (sym ((bytes_decides x y).1 e) ∙ other)

one_place : (xs : List (List ℕ)) (n m : ℕ) → IsDistinct (pointwise nat_eq) xs → n < length xs → m < length xs → slice_index_or xs n [] ≡ slice_index_or xs m [] → n ≡ m
one_place [] n m once below under e = absurd (not-suc-le-zero below)
one_place (x ∷ xs) zero zero once below under e = refl
one_place (x ∷ xs) zero (suc m) once below under e =
    absurd (unequal_to x (slice_index_or xs m []) (each-at (λ y. pointwise nat_eq x y ≡ false) xs m [] (omega (arith, under)) (IsDistinct-head (pointwise nat_eq) x xs once)) e)
one_place (x ∷ xs) (suc n) zero once below under e =
    absurd (unequal_to x (slice_index_or xs n []) (each-at (λ y. pointwise nat_eq x y ≡ false) xs n [] (omega (arith, below)) (IsDistinct-head (pointwise nat_eq) x xs once)) (sym e))
one_place (x ∷ xs) (suc n) (suc m) once below under e =
    ap suc (one_place xs n m (IsDistinct-tail (pointwise nat_eq) x xs once) (omega (arith, below)) (omega (arith, under)) e)

-- bytes have one list of numbers
pub one_list : (xs : List (List ℕ)) (ns ms : List ℕ) → AreDistinct xs → AreNumbers xs ns → AreNumbers xs ms → bytes_of xs ns ≡ bytes_of xs ms → ns ≡ ms
one_list xs [] [] is a b e = refl
one_list xs [] (m ∷ ms) is a b e = absurd (omega (arith, ap length e, length-append (slice_index_or xs m []) (bytes_of xs ms), each-at (λ (r : List ℕ). length r ≡ 4096) xs m [] b.0 is.sizes))
one_list xs (n ∷ ns) [] is a b e = absurd (omega (arith, ap length e, length-append (slice_index_or xs n []) (bytes_of xs ns), each-at (λ (r : List ℕ). length r ≡ 4096) xs n [] a.0 is.sizes))
one_list xs (n ∷ ns) (m ∷ ms) is a b e =
    let left : length (slice_index_or xs n []) ≡ 4096 = each-at (λ (r : List ℕ). length r ≡ 4096) xs n [] a.0 is.sizes in
    let right : length (slice_index_or xs m []) ≡ 4096 = each-at (λ (r : List ℕ). length r ≡ 4096) xs m [] b.0 is.sizes in
    let parts = apart (slice_index_or xs n []) (slice_index_or xs m []) (bytes_of xs ns) (bytes_of xs ms) (left ∙ sym right) e in
    ap₂ (λ (k : ℕ) (l : List ℕ). k ∷ l) (one_place xs n m is.distinct a.0 b.0 parts.0) (one_list xs ns ms is a.1 b.1 parts.1) where
      apart : (a b c d : List ℕ) → length a ≡ length b → a ++ c ≡ b ++ d → (a ≡ b) × (c ≡ d)
      apart [] [] c d l e = (refl, e)
      apart [] (y ∷ b) c d l e = absurd (omega (arith, l))
      apart (x ∷ a) [] c d l e = absurd (omega (arith, l))
      apart (x ∷ a) (y ∷ b) c d l e = let rest : (a ≡ b) × (c ≡ d) = apart a b c d (omega (arith, l)) (cc) in let head : x ≡ y = cc in (ap₂ (λ (k : ℕ) (m : List ℕ). k ∷ m) head rest.0, rest.1)

-- ---- bytes are put together

pub more_bytes : (xs : List (List ℕ)) (ns : List ℕ) (i d : ℕ) (so_far now : List ℕ) → i < length ns → so_far ≡ bytes_of xs (take i ns)
    → now ≡ so_far ++ slice_index_or xs (slice_index_or ns i d) [] → now ≡ bytes_of xs (take (i + 1) ns)
more_bytes xs ns i d so_far now below before more =
    let next : suc i ≡ i + 1 = omega arith in
    let front : take (i + 1) ns ≡ take i ns ++ slice_index_or ns i d ∷ [] = ap (λ k. take k ns) (sym next) ∙ take-suc ns i d below in
    more ∙ ap (λ l. l ++ slice_index_or xs (slice_index_or ns i d) []) before ∙ sym (bytes_append xs (take i ns) (slice_index_or ns i d)) ∙ ap (bytes_of xs) (sym front)
