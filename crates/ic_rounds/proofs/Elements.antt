-- What holds of each of a list, and a list that changes at one place.
use Rattle.std.proofs.Common.{◌≡◌, ℕ, zero, suc, ◌<◌, List, [], ◌∷◌, ◌++◌, length, get_or, Some, refl, sym, ap, subst, arith, take}
use Rattle.std.specs.Prelude.{slice_get, slice_set}
use Rattle.std.specs.List.{AllByRecursion, AllZip}

module _ {X : Type 0} where
  pub each-at : (P : X → Type 0) (xs : List X) (k : ℕ) (x : X) → AllByRecursion P xs → slice_get xs k ≡ Some x → P x
  each-at P [] k x all is = cc
  each-at P (y ∷ xs) zero x all is = let same : y ≡ x = cc in subst P same all.0
  each-at P (y ∷ xs) (suc k) x all is = each-at P xs k x all.1 is

  pub each-read : (P : X → Type 0) (xs : List X) (k : ℕ) (x : X) → AllByRecursion P xs → k < length xs → x ≡ get_or xs k x → P x
  each-read P [] k x all inside is = absurd (omega (arith, inside))
  each-read P (y ∷ xs) zero x all inside is = subst P (sym is) all.0
  each-read P (y ∷ xs) (suc k) x all inside is = each-read P xs k x all.1 (omega (arith, inside)) is

  pub each-snoc : (P : X → Type 0) (xs : List X) (x : X) → AllByRecursion P xs → P x → AllByRecursion P (xs ++ x ∷ [])
  each-snoc P [] x all here = (here, tt)
  each-snoc P (y ∷ xs) x all here = (all.0, each-snoc P xs x all.1 here)

  pub each-weaker : (P Q : X → Type 0) → ((x : X) → P x → Q x) → (xs : List X) → AllByRecursion P xs → AllByRecursion Q xs
  each-weaker P Q weaker [] all = tt
  each-weaker P Q weaker (x ∷ xs) all = (weaker x all.0, each-weaker P Q weaker xs all.1)

  pub get-set-here : (xs : List X) (i : ℕ) (x : X) → i < length xs → slice_get (slice_set xs i x) i ≡ Some x
  get-set-here [] i x inside = absurd (omega (arith, inside))
  get-set-here (y ∷ xs) zero x inside = refl
  get-set-here (y ∷ xs) (suc i) x inside = get-set-here xs i x (omega (arith, inside))

  pub get-set-else : (xs : List X) (i j : ℕ) (x : X) → (j ≡ i → ⊥) → slice_get (slice_set xs i x) j ≡ slice_get xs j
  get-set-else [] i j x other = refl
  get-set-else (y ∷ xs) zero zero x other = absurd (other refl)
  get-set-else (y ∷ xs) zero (suc j) x other = refl
  get-set-else (y ∷ xs) (suc i) zero x other = refl
  get-set-else (y ∷ xs) (suc i) (suc j) x other = get-set-else xs i j x (λ e. other (ap suc e))

  zip-append : (R : X → X → Type 0) (xs ys us vs : List X) → AllZip R xs us → AllZip R ys vs → AllZip R (xs ++ ys) (us ++ vs)
  zip-append R [] ys [] vs front back = back
  zip-append R [] ys (u ∷ us) vs front back = absurd front
  zip-append R (x ∷ xs) ys [] vs front back = absurd front
  zip-append R (x ∷ xs) ys (u ∷ us) vs front back = (front.0, zip-append R xs ys us vs front.1 back)

  pub zip-halves : (R : X → X → Type 0) (xs front back us vs after : List X) → xs ≡ front ++ back → after ≡ us ++ vs → AllZip R front us → AllZip R back vs → AllZip R xs after
  zip-halves R xs front back us vs after cut same first second =
      subst (λ l. AllZip R l after) (sym cut) (subst (AllZip R (front ++ back)) (sym same) (zip-append R front back us vs first second))

  pub zip-after : (R : X → X → Type 0) (P : X → Type 0) → ((x y : X) → R x y → P y) → (xs ys : List X) → AllZip R xs ys → AllByRecursion P ys
  zip-after R P weaker [] [] all = tt
  zip-after R P weaker [] (y ∷ ys) all = absurd all
  zip-after R P weaker (x ∷ xs) [] all = absurd all
  zip-after R P weaker (x ∷ xs) (y ∷ ys) all = (weaker x y all.0, zip-after R P weaker xs ys all.1)

  pub take-front : (n : ℕ) (xs ys : List X) → n ≡ length xs → take n (xs ++ ys) ≡ xs
  take-front zero [] ys same = refl
  take-front (suc n) [] ys same = absurd (omega (arith, same))
  take-front zero (x ∷ xs) ys same = absurd (omega (arith, same))
  take-front (suc n) (x ∷ xs) ys same = ap (λ l. x ∷ l) (take-front n xs ys (omega (arith, same)))
