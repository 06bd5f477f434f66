-- The first element of a list that passes a test leaves the list.
use Rattle.std.proofs.Common.{◌≡◌, ℕ, zero, suc, Bool, true, false, cond, List, [], ◌∷◌, ◌++◌, take, drop, Some, refl, ap, inl, inr}
use Rattle.std.specs.Prelude.{slice_get}
use Rattle.std.specs.List.{list_any, filter}
use Rattle.std.proofs.lemmas.Bool.{cases_Bool, or_parts, or_from}

module _ {X : Type 0} where
  -- the list around the element at a place
  pub around : (xs : List X) (place : ℕ) (x : X) → slice_get xs place ≡ Some x → xs ≡ take place xs ++ x ∷ drop (suc place) xs
  around [] place x is = cc
  around (y ∷ xs) zero x is = let same : y ≡ x = cc in ap (λ z. z ∷ xs) same
  around (y ∷ xs) (suc place) x is = ap (λ l. y ∷ l) (around xs place x is)

  pub heads : (x y : X) (xs ys : List X) → x ∷ xs ≡ y ∷ ys → x ≡ y
  heads x y xs ys is = cc

  pub tails : (x : X) (xs ys : List X) → x ∷ xs ≡ x ∷ ys → xs ≡ ys
  tails x xs ys is = cc

module _ {X : Type 0} (p : X → Bool) where
  -- it is the first that is kept
  pub kept_first : (front : List X) (x : X) (back : List X) → list_any p front ≡ false → p x ≡ true → filter p (front ++ x ∷ back) ≡ x ∷ filter p (front ++ back)
  kept_first [] x back none is = rw is refl
  kept_first (y ∷ front) x back none is =
      let parts = or_parts (p y) (list_any p front) none in
      rw parts.0 (kept_first front x back parts.1 is)

  -- one that fails may go
  pub kept_others : (front : List X) (x : X) (back : List X) → p x ≡ false → filter p (front ++ x ∷ back) ≡ filter p (front ++ back)
  kept_others [] x back fails = rw fails refl
  kept_others (y ∷ front) x back fails = ap (λ l. cond (p y) (y ∷ l) l) (kept_others front x back fails)

  -- the list around its first element that passes
  pub record Around (xs : List X) (x : X) : Type 0 where
    pub front : List X
    pub back : List X
    pub whole : xs ≡ front ++ x ∷ back
    pub none_before : list_any p front ≡ false

  pub around_first : (xs : List X) (x : X) (rest : List X) → filter p xs ≡ x ∷ rest → Around xs x
  around_first [] x rest is = cc
  around_first (y ∷ xs) x rest is =
      elim (cases_Bool (p y)) [
        | inl passes ↦
            let first : y ∷ filter p xs ≡ x ∷ rest = rw passes at is in
            let same : y ≡ x = cc in
            record { front = []; back = xs; whole = ap (λ z. z ∷ xs) same; none_before = refl }
        | inr fails ↦
            let later : filter p xs ≡ x ∷ rest = rw fails at is in
            let found = around_first xs x rest later in
            record {
              front = y ∷ found.front;
              back = found.back;
              whole = ap (λ l. y ∷ l) found.whole;
              none_before = or_from (p y) (list_any p found.front) fails found.none_before;
            }
      ]
