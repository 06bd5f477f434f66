-- Sums over lists that change at one place, and how often a number is in a list.
use Rattle.std.proofs.Common.{◌≡◌, ℕ, zero, suc, ◌+◌, ◌<◌, ◌≤◌, List, [], ◌∷◌, ◌++◌, cond, eqb, get_or, length, set, sym, refl, ap, arith, Some}
use Rattle.std.specs.Prelude.{slice_get}
use Rattle.std.specs.List.{AllByRecursion}
use Rattle.std.proofs.lemmas.Bool.Decides.{nat_tests}
use mathlib.Core.Option.{some, some-injective, some-ne-none}
use lib.ListN.{get_elem?}
use Rattle.ic_tickets.specs.Rule.{total, times, once_below}

module _ {A : Type 0} where
  pub get-some : (l : List A) (i : ℕ) (x : A) → get_elem? l i ≡ some x → slice_get l i ≡ Some x
  get-some [] i x e = absurd (some-ne-none x (sym e))
  get-some (y ∷ l) zero x e = ap Some (some-injective y x e)
  get-some (y ∷ l) (suc i) x e = get-some l i x e

  pub get-within : (l : List A) (i : ℕ) → i < length l → (x : A) × (get_elem? l i ≡ some x)
  get-within [] i h = absurd (omega arith)
  get-within (y ∷ l) zero h = (y, refl)
  get-within (y ∷ l) (suc i) h = get-within l i (omega arith)

  pub each-snoc : (P : A → Type 0) (l : List A) (x : A) → AllByRecursion P l → P x → AllByRecursion P (l ++ x ∷ [])
  each-snoc P [] x all here = (here, tt)
  each-snoc P (y ∷ l) x all here = (all.0, each-snoc P l x all.1 here)

  pub each-split : (P : A → Type 0) (l : List A) (x : A) → AllByRecursion P (l ++ x ∷ []) → AllByRecursion P l × P x
  each-split P [] x all = (tt, all.0)
  each-split P (y ∷ l) x all = let more = each-split P l x all.1 in ((all.0, more.0), more.1)

  pub total-append : (f : A → ℕ) (l m : List A) → total f (l ++ m) ≡ total f l + total f m
  total-append f [] m = omega arith
  total-append f (x ∷ l) m = omega (arith, total-append f l m)

  pub total-set : (f : A → ℕ) (l : List A) (i : ℕ) (v w : A) → get_elem? l i ≡ some v → total f (set l i w) + f v ≡ total f l + f w
  total-set f [] i v w e = absurd (some-ne-none v (sym e))
  total-set f (x ∷ l) zero v w e = omega (arith, ap f (some-injective x v e))
  total-set f (x ∷ l) (suc i) v w e = omega (arith, total-set f l i v w e)

  pub total-at : (f : A → ℕ) (l : List A) (i : ℕ) (v : A) → get_elem? l i ≡ some v → f v ≤ total f l
  total-at f [] i v e = absurd (some-ne-none v (sym e))
  total-at f (x ∷ l) zero v e = omega (arith, ap f (some-injective x v e))
  total-at f (x ∷ l) (suc i) v e = omega (arith, total-at f l i v e)

  pub total-below : (f g : A → ℕ) (l : List A) → ((i : ℕ) (v : A) → get_elem? l i ≡ some v → f v ≤ g v) → total f l ≤ total g l
  total-below f g [] below = omega arith
  total-below f g (x ∷ l) below = omega (arith, below 0 x refl, total-below f g l (λ i v e. below (suc i) v e))

  total-none : (f g : A → ℕ) (l : List A) → ((i : ℕ) (v : A) → get_elem? l i ≡ some v → g v ≡ 0 → f v ≡ 0) → total g l ≡ 0 → total f l ≡ 0
  total-none f g [] none nought = refl
  total-none f g (x ∷ l) none nought = omega (arith, none 0 x refl (omega (arith, nought)), total-none f g l (λ i v e. none (suc i) v e) (omega (arith, nought)))

  -- who has all of g has all of f, where f is 0 wherever g is
  pub total-alone : (f g : A → ℕ) (l : List A) (i : ℕ) (v : A) → get_elem? l i ≡ some v → ((j : ℕ) (w : A) → get_elem? l j ≡ some w → g w ≡ 0 → f w ≡ 0) → g v ≡ total g l → total f l ≡ f v
  total-alone f g [] i v e none all = absurd (some-ne-none v (sym e))
  total-alone f g (x ∷ l) zero v e none all =
      let is = some-injective x v e in
      omega (arith, ap f is, total-none f g l (λ j w e. none (suc j) w e) (omega (arith, all, ap g is)))
  total-alone f g (x ∷ l) (suc i) v e none all =
      let at = total-at g l i v e in
      omega (arith, none 0 x refl (omega (arith, all, at)), total-alone f g l i v e (λ j w e. none (suc j) w e) (omega (arith, all, at)))

pub once-more : (x n : ℕ) → once_below x n + cond (eqb n x) 1 0 ≡ once_below x (n + 1)
once-more x n = grind (arith, nat_tests)

pub once-small : (x n : ℕ) → once_below x n ≤ 1
once-small x n = grind (arith, nat_tests)

pub once-below : (x n : ℕ) → 0 < once_below x n → x < n
once-below x n = grind (arith, nat_tests)

pub once-none : (x : ℕ) → once_below x 0 ≡ 0
once-none x = grind (arith, nat_tests)

-- what is in a list is there at least once
pub times-in : (ys : List ℕ) (i d : ℕ) → i < length ys → 0 < times (get_or ys i d) ys
times-in [] i d h = absurd (omega arith)
times-in (y ∷ ys) zero d h = grind (arith, nat_tests)
times-in (y ∷ ys) (suc i) d h = let more = times-in ys i d (omega arith) in omega (arith, more)

pub once-above : (x n : ℕ) → x < n → once_below x n ≡ 1
once-above x n h = grind (arith, nat_tests)
