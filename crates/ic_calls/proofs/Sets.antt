-- A list whose elements are changed one after another.
use Rattle.std.proofs.Common.{◌≡◌, ℕ, zero, suc, ◌+◌, List, [], ◌∷◌, ◌++◌, map, take, drop, get_or, refl, ap, ◌∙◌, arith}
use Rattle.std.specs.Prelude.{slice_set}

module _ {A : Type 0} (f : A → A) where
  next : (xs : List A) (i : ℕ) (x : A) → slice_set (map f (take i xs) ++ drop i xs) i (f (get_or (map f (take i xs) ++ drop i xs) i x)) ≡ map f (take (suc i) xs) ++ drop (suc i) xs
  next [] zero x = refl
  next [] (suc i) x = refl
  next (y ∷ ys) zero x = refl
  next (y ∷ ys) (suc i) x = ap (λ l. f y ∷ l) (next ys i x)

  -- the element at a place is changed, and those before it were
  pub one_more : (xs ys : List A) (i : ℕ) (x v : A) → ys ≡ map f (take i xs) ++ drop i xs → v ≡ f (get_or ys i x) → slice_set ys i v ≡ map f (take (i + 1) xs) ++ drop (i + 1) xs
  one_more xs ys i x v so_far changed =
      let more : suc i ≡ i + 1 = omega arith in
      ap (slice_set ys i) changed ∙ ap (λ l. slice_set l i (f (get_or l i x))) so_far ∙ next xs i x ∙ ap (λ n. map f (take n xs) ++ drop n xs) more
