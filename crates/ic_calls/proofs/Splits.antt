-- A list at the first element that passes a test.
use Rattle.std.proofs.Common.{◌≡◌, ℕ, suc, ◌+◌, ◌<◌, Bool, true, false, not, nat_lt, cond, List, [], ◌∷◌, ◌++◌, length, Option, Some, None, slice_get, slice_set, find, refl, sym, ap, ◌∙◌, subst, arith}
use Rattle.std.specs.List.{AllByRecursion, position, position_or_len}
use Rattle.std.proofs.lemmas.List.Folds.{find_at}
use Rattle.std.proofs.lemmas.Option.{slice_get_past}
use Rattle.std.proofs.lemmas.Bool.Decides.{nat_tests}
use Rattle.ic_behaviour.specs.Executing.{change}

pub record Split {A : Type 0} (test : A → Bool) (xs : List A) (i : ℕ) (x : A) : Type 0 where
  pub front : List A
  pub back : List A
  pub whole : xs ≡ front ++ x ∷ back
  pub place : length front ≡ i
  pub here : test x ≡ true
  pub before : AllByRecursion (λ y. test y ≡ false) front

module _ {A : Type 0} (test : A → Bool) where
  first : (xs : List A) → position_or_len test xs < length xs → (x : A) × Split test xs (position_or_len test xs) x
  first [] h = absurd (no h) where
    no : 0 < 0 → ⊥
    no p = omega arith
  first (x ∷ xs) h = by (test x) refl h (first xs) where
    by : (b : Bool) → test x ≡ b → cond (not b) (1 + position_or_len test xs) 0 < suc (length xs)
        → (position_or_len test xs < length xs → (y : A) × Split test xs (position_or_len test xs) y)
        → (y : A) × Split test (x ∷ xs) (cond (not b) (1 + position_or_len test xs) 0) y
    by true e h later = (x, record { front = []; back = xs; whole = refl; place = refl; here = e; before = tt })
    by false e h later =
        let rest = later (omega (arith, h)) in
        let s = rest.1 in (
          rest.0,
          record {
            front = x ∷ s.front;
            back = s.back;
            whole = ap (λ l. x ∷ l) s.whole;
            place = omega (arith, s.place);
            here = s.here;
            before = (e, s.before);
          },
        )

  pub at_place : (xs : List A) (i : ℕ) → position test xs ≡ Some i → (x : A) × Split test xs i x
  at_place xs i e = by (nat_lt (position_or_len test xs) (length xs)) refl e where
    by : (b : Bool) → nat_lt (position_or_len test xs) (length xs) ≡ b → ◌≡◌ {A = Option ℕ} (cond b (Some (position_or_len test xs)) None) (Some i) → (x : A) × Split test xs i x
    by true is e =
        let same : position_or_len test xs ≡ i = cc in
        subst (λ n. (x : A) × Split test xs n x) same (first xs (grind (arith, nat_tests)))
    by false is e = absurd cc

  pub no_place : (xs : List A) → position test xs ≡ None → find test xs ≡ None
  no_place xs e = by (nat_lt (position_or_len test xs) (length xs)) refl e where
    by : (b : Bool) → nat_lt (position_or_len test xs) (length xs) ≡ b → ◌≡◌ {A = Option ℕ} (cond b (Some (position_or_len test xs)) None) None → find test xs ≡ None
    by true is e = absurd cc
    by false is e = find_at test xs ∙ slice_get_past xs (position_or_len test xs) (grind (arith, nat_tests))

  pub none_before : (xs : List A) → find test xs ≡ None → AllByRecursion (λ y. test y ≡ false) xs
  none_before [] e = tt
  none_before (x ∷ xs) e = by (test x) refl e (none_before xs) where
    by : (b : Bool) → test x ≡ b → cond b (Some x) (find test xs) ≡ None → (find test xs ≡ None → AllByRecursion (λ y. test y ≡ false) xs) → (test x ≡ false) × AllByRecursion (λ y. test y ≡ false) xs
    by true is e later = absurd cc
    by false is e later = (is, later e)

  -- after a list in which none passes
  pub at_end : (xs : List A) (x : A) → find test xs ≡ None → test x ≡ true → Split test (xs ++ x ∷ []) (length xs) x
  at_end xs x none is = record { front = xs; back = []; whole = refl; place = refl; here = is; before = none_before xs none }

  -- at the front and the back

  find-front : (front : List A) (x : A) (back : List A) → AllByRecursion (λ y. test y ≡ false) front → test x ≡ true → find test (front ++ x ∷ back) ≡ Some x
  find-front [] x back before is = ap (λ b. cond b (Some x) (find test back)) is
  find-front (y ∷ front) x back before is = ap (λ b. cond b (Some y) (find test (front ++ x ∷ back))) before.0 ∙ find-front front x back before.1 is

  change-front : (f : A → A) (front : List A) (x : A) (back : List A) → AllByRecursion (λ y. test y ≡ false) front → test x ≡ true
      → change test f (front ++ x ∷ back) ≡ front ++ f x ∷ back
  change-front f [] x back before is = ap (λ b. cond b (f x ∷ back) (x ∷ change test f back)) is
  change-front f (y ∷ front) x back before is =
      ap (λ b. cond b (f y ∷ (front ++ x ∷ back)) (y ∷ change test f (front ++ x ∷ back))) before.0 ∙ ap (λ l. y ∷ l) (change-front f front x back before.1 is)

  length-front : (front : List A) (x : A) (back : List A) → AllByRecursion (λ y. test y ≡ false) front → test x ≡ true
      → position_or_len test (front ++ x ∷ back) ≡ length front
  length-front [] x back before is = ap (λ b. cond (not b) (1 + position_or_len test back) 0) is
  length-front (y ∷ front) x back before is =
      ap (λ b. cond (not b) (1 + position_or_len test (front ++ x ∷ back)) 0) before.0 ∙ omega (arith, length-front front x back before.1 is)

slice_get-front : {A : Type 0} (front : List A) (x : A) (back : List A) → slice_get (front ++ x ∷ back) (length front) ≡ Some x
slice_get-front [] x back = refl
slice_get-front (y ∷ front) x back = slice_get-front front x back

slice_set-front : {A : Type 0} (front : List A) (x y : A) (back : List A) → slice_set (front ++ x ∷ back) (length front) y ≡ front ++ y ∷ back
slice_set-front [] x y back = refl
slice_set-front (z ∷ front) x y back = ap (λ l. z ∷ l) (slice_set-front front x y back)

length-middle : {A : Type 0} (front : List A) (x : A) (back : List A) → length front < length (front ++ x ∷ back)
length-middle [] x back = omega arith
length-middle (y ∷ front) x back = omega (arith, length-middle front x back)

-- ---- at a split

module _ {A : Type 0} {test : A → Bool} {xs : List A} {i : ℕ} {x : A} (s : Split test xs i x) where
  pub find-split : find test xs ≡ Some x
  find-split = ap (find test) s.whole ∙ find-front test s.front x s.back s.before s.here

  pub change-split : (f : A → A) → change test f xs ≡ s.front ++ f x ∷ s.back
  change-split f = ap (change test f) s.whole ∙ change-front test f s.front x s.back s.before s.here

  pub get-split : slice_get xs i ≡ Some x
  get-split = ap (λ l. slice_get l i) s.whole ∙ ap (slice_get (s.front ++ x ∷ s.back)) (sym s.place) ∙ slice_get-front s.front x s.back

  pub set-split : (y : A) → slice_set xs i y ≡ s.front ++ y ∷ s.back
  set-split y = ap (λ l. slice_set l i y) s.whole ∙ ap (λ n. slice_set (s.front ++ x ∷ s.back) n y) (sym s.place) ∙ slice_set-front s.front x y s.back

  pub within-split : i < length xs
  within-split = omega (arith, length-middle s.front x s.back, ap length s.whole, s.place)

  -- another element that passes takes its place
  pub put_there : (y : A) → test y ≡ true → Split test (slice_set xs i y) i y
  put_there y is = record { front = s.front; back = s.back; whole = set-split y; place = s.place; here = is; before = s.before }

  pub position-split : position test xs ≡ Some i
  position-split =
      let n : position_or_len test xs ≡ i = ap (position_or_len test) s.whole ∙ length-front test s.front x s.back s.before s.here ∙ s.place in
      let lt : position_or_len test xs < length xs = omega (arith, n, within-split) in
      let is : nat_lt (position_or_len test xs) (length xs) ≡ true = grind (arith, nat_tests) in
      ap (λ b. cond b (Some (position_or_len test xs)) None) is ∙ ap (λ m. Some m) n
