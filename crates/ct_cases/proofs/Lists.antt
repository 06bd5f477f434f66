-- Lists of which some element passes, and lists with one element more.
use Rattle.std.proofs.Common.{◌≡◌, ℕ, ◌<◌, ◌≤◌, zero, suc, ◌+◌, List, [], ◌∷◌, ◌++◌, length, take, drop, get_or, Some, refl, sym, ap, ◌∙◌, subst, drop-cons, arith}
use Rattle.std.specs.Prelude.{All, slice_get}
use Rattle.std.specs.List.{Any, AllByRecursion}
use Rattle.std.proofs.Math.Seq.{take-suc, take-append_seam}

module _ {X : Type 0} (P : X → Type 0) where
  pub any_first : (x : X) (xs : List X) → P x → Any P (x ∷ xs)
  any_first x xs p = (0, x, omega arith, refl, p)

  pub any_later : (x : X) (xs : List X) → Any P xs → Any P (x ∷ xs)
  any_later x xs (k, y, lt, is, p) = (suc k, y, omega (arith, lt), is, p)

  pub none_of : Any P [] → ⊥
  none_of (k, x, lt, is, p) = absurd (omega (arith, lt))

  -- one of a list, or of what follows its first
  pub any_split : {C : Type 0} (x : X) (xs : List X) → Any P (x ∷ xs) → (P x → C) → (Any P xs → C) → C
  any_split {C} x xs (zero, y, lt, is, p) here there = here (subst P (sym is) p)
  any_split {C} x xs (suc k, y, lt, is, p) here there = there (k, y, omega (arith, lt), is, p)

  pub all_first : (x : X) (xs : List X) → All P (x ∷ xs) → P x
  all_first x xs all = all 0 x (omega arith)

  pub all_later : (x : X) (xs : List X) → All P (x ∷ xs) → All P xs
  all_later x xs all = λ k d lt. all (suc k) d (omega (arith, lt))

  pub all_none : All P []
  all_none = λ k d lt. absurd (omega (arith, lt))

  pub all_cons : (x : X) (xs : List X) → P x → All P xs → All P (x ∷ xs)
  all_cons x xs p all = λ k d lt. at k d lt
    where
      at : (k : ℕ) (d : X) → k < length (x ∷ xs) → P (get_or (x ∷ xs) k d)
      at zero d lt = p
      at (suc k) d lt = all k d (omega (arith, lt))

  -- what holds of all holds of the one that is found
  pub found : (Q : X → Type 0) (xs : List X) → All P xs → Any Q xs → (x : X) × P x × Q x
  found Q xs all (k, x, lt, is, q) = (x, subst P is (all k x lt), q)

  pub rec_push : (xs : List X) (x : X) → AllByRecursion P xs → P x → AllByRecursion P (xs ++ x ∷ [])
  rec_push [] x all p = (p, tt)
  rec_push (y ∷ xs) x all p = (all.0, rec_push xs x all.1 p)

module _ {X : Type 0} {P Q : X → Type 0} (f : (x : X) → P x → Q x) where
  pub any_as : (xs : List X) → Any P xs → Any Q xs
  any_as xs (k, x, lt, is, p) = (k, x, lt, is, f x p)

  pub all_as : (xs : List X) → All P xs → All Q xs
  all_as xs all = λ k d lt. f (get_or xs k d) (all k d lt)

-- ---- the first elements

pub take_one : {X : Type 0} (xs : List X) (i : ℕ) (d : X) → i < length xs → take (i + 1) xs ≡ take i xs ++ get_or xs i d ∷ []
take_one xs i d lt = ap (λ n. take n xs) (let next : i + 1 ≡ suc i = omega arith in next) ∙ take-suc xs i d lt

pub get_some : {X : Type 0} (xs : List X) (i : ℕ) (d : X) → i < length xs → slice_get xs i ≡ Some (get_or xs i d)
get_some [] i d lt = absurd (omega (arith, lt))
get_some (x ∷ xs) zero d lt = refl
get_some (x ∷ xs) (suc i) d lt = get_some xs i d (omega (arith, lt))

pub cut_at : {X : Type 0} (xs : List X) (i : ℕ) (d : X) → i < length xs → xs ≡ take i xs ++ get_or xs i d ∷ drop (suc i) xs
cut_at [] i d lt = absurd (omega (arith, lt))
cut_at (x ∷ xs) zero d lt = refl
cut_at (x ∷ xs) (suc i) d lt = ap (λ l. x ∷ l) (cut_at xs i d (omega (arith, lt)))

pub take_some : {X : Type 0} (xs : List X) (i : ℕ) (x : X) → slice_get xs i ≡ Some x → take (i + 1) xs ≡ take i xs ++ x ∷ []
take_some {X} xs i x is = ap (λ n. take n xs) (let next : i + 1 ≡ suc i = omega arith in next) ∙ more xs i is
  where
    more : (ys : List X) (j : ℕ) → slice_get ys j ≡ Some x → take (suc j) ys ≡ take j ys ++ x ∷ []
    more [] zero is = cc
    more [] (suc j) is = cc
    more (y ∷ ys) zero is = let same : y ≡ x = cc in ap (λ z. z ∷ []) same
    more (y ∷ ys) (suc j) is = ap (λ l. y ∷ l) (more ys j is)

-- the first of the first elements
pub take_front : {X : Type 0} (k n : ℕ) (xs : List X) → k ≤ n → take k (take n xs) ≡ take k xs
take_front zero n xs le = refl
take_front (suc k) zero xs le = absurd (omega (arith, le))
take_front (suc k) (suc n) [] le = refl
take_front (suc k) (suc n) (x ∷ xs) le = ap (λ l. x ∷ l) (take_front k n xs (omega (arith, le)))

pub front_is : {X : Type 0} (front rest xs : List X) (k : ℕ) → xs ≡ front ++ rest → length front ≡ k → front ≡ take k xs
front_is front rest xs k parts many = sym (ap (take k) parts ∙ ap (λ n. take n (front ++ rest)) (sym many) ∙ take-append_seam front rest)

-- an element, and those after it
pub drop_there : {X : Type 0} (xs : List X) (i : ℕ) (x : X) → i < length xs → x ≡ get_or xs i x → drop i xs ≡ x ∷ drop (i + 1) xs
drop_there xs i x within at = let one : i + 1 ≡ suc i = omega arith in drop-cons xs i x within ∙ rw (one, sym at) refl
