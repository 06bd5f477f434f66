-- Lists of which one element passes.
use Rattle.std.proofs.Common.{◌≡◌, ℕ, ◌<◌, zero, suc, List, [], ◌∷◌, ◌++◌, length, get_or, map, refl, sym, ◌∙◌, subst, arith}
use Rattle.std.specs.Prelude.{All}
use Rattle.std.specs.List.{Any}
use Rattle.std.proofs.lemmas.List.{get_or_default, get_or_append_left, get_or_at, length-append}

module _ {X : Type 0} (P : X → Type 0) where
  pub any_at : (xs : List X) (k : ℕ) (d : X) → k < length xs → P (get_or xs k d) → Any P xs
  any_at xs k d lt p = (k, get_or xs k d, lt, get_or_default xs k (get_or xs k d) d lt, p)

  pub any_longer : (xs more : List X) → Any P xs → Any P (xs ++ more)
  any_longer xs more a =
      let lt : a.0 < length xs = a.2 in
      (a.0, a.1, omega (arith, length-append xs more), get_or_append_left xs more a.1 a.0 lt ∙ a.3, a.4)

  pub all_front : (xs ys : List X) → All P (xs ++ ys) → All P xs
  all_front xs ys all k d lt = subst P (get_or_append_left xs ys d k lt) (all k d (omega (arith, length-append xs ys)))

  pub all_middle : (xs : List X) (y : X) (ys : List X) → All P (xs ++ y ∷ ys) → P y
  all_middle xs y ys all = subst P (get_or_at xs y ys y (length xs) refl) (all (length xs) y (omega (arith, length-append xs (y ∷ ys))))

  module _ {Y : Type 0} (f : Y → X) where
    pub any_of_map : (ys : List Y) (k : ℕ) (d : Y) → k < length ys → P (f (get_or ys k d)) → Any P (map f ys)
    any_of_map [] k d lt p = absurd (omega (arith, lt))
    any_of_map (y ∷ ys) zero d lt p = (0, f y, omega arith, refl, p)
    any_of_map (y ∷ ys) (suc k) d lt p =
        let a = any_of_map ys k d (omega (arith, lt)) p in
        let in_rest : a.0 < length (map f ys) = a.2 in
        (suc a.0, a.1, omega (arith, in_rest), a.3, a.4)

    none_at : (ys : List Y) → ((k : ℕ) (d : Y) → k < length ys → ¬ P (f (get_or ys k d))) → (k : ℕ) (x : X) → k < length (map f ys) → get_or (map f ys) k x ≡ x → P x → ⊥
    none_at [] none k x lt is p = absurd (omega (arith, lt))
    none_at (y ∷ ys) none zero x lt is p = none 0 y (omega arith) (subst P (sym is) p)
    none_at (y ∷ ys) none (suc k) x lt is p = none_at ys (λ j d less. none (suc j) d (omega (arith, less))) k x (omega (arith, lt)) is p

    pub none_of_map : (ys : List Y) → ((k : ℕ) (d : Y) → k < length ys → ¬ P (f (get_or ys k d))) → ¬ Any P (map f ys)
    none_of_map ys none = λ a. none_at ys none a.0 a.1 a.2 a.3 a.4

    pub all_of_map : (ys : List Y) → All P (map f ys) → (k : ℕ) (d : Y) → k < length ys → P (f (get_or ys k d))
    all_of_map [] all k d lt = absurd (omega (arith, lt))
    all_of_map (y ∷ ys) all zero d lt = all 0 (f y) (omega arith)
    all_of_map (y ∷ ys) all (suc k) d lt = all_of_map ys (λ j e less. all (suc j) e (omega (arith, less))) k d (omega (arith, lt))
