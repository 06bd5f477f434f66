-- The places of those elements that pass a test.
use Rattle.std.proofs.Common.{◌≡◌, ℕ, zero, suc, ◌+◌, ◌<◌, ◌==◌, Bool, true, false, cond, List, [], ◌∷◌, ◌++◌, length, get_or, Option, Some, None, refl, sym, ap, ap₂, ◌∙◌, subst, inl, inr, arith, not-suc-le-zero, true≢false, append-nil}
use Rattle.std.specs.Prelude.{slice_get}
use Rattle.std.specs.Global.{Vec}
use Rattle.std.specs.List.{filter, range_with_len, Contains}
use Rattle.std.specs.BTreeMap.{BTreeMap}
use Rattle.std.proofs.lemmas.Bool.{cases_lt}
use Rattle.std.proofs.lemmas.List.{length-append}
use Rattle.std.proofs.lemmas.List.Elements.{Contains-append_left, Contains-push, filter_passes}
use Rattle.std.proofs.lemmas.Option.{slice_get_within, slice_get-get_or}
use Rattle.ct_search.specs.declared.case.Case.{Case}
use Rattle.ct_search.specs.Index.{places_under, has_key, AreUnderKeys}

kept_by : (b : Bool) (a : ℕ) (xs ys zs : List ℕ) → xs ≡ ys ++ zs → cond b (a ∷ xs) xs ≡ cond b (a ∷ ys) ys ++ zs
kept_by true a xs ys zs same = ap (λ l. a ∷ l) same
kept_by false a xs ys zs same = same

range_more : (p : ℕ → Bool) (a n j : ℕ) → a + n ≡ j → filter p (range_with_len a (suc n)) ≡ filter p (range_with_len a n) ++ cond (p j) (j ∷ []) []
range_more p a zero j is = ap (λ k. cond (p k) (k ∷ []) []) (let at : a ≡ j = omega (arith, is) in at)
range_more p a (suc n) j is =
    kept_by (p a) a (filter p (range_with_len (a + 1) (suc n))) (filter p (range_with_len (a + 1) n)) (cond (p j) (j ∷ []) [])
    (range_more p (a + 1) n j (let at : a + 1 + n ≡ j = omega (arith, is) in at))

last_one : (p : ℕ → Bool) (n : ℕ) → filter p (range_with_len 0 (suc n)) ≡ filter p (range_with_len 0 n) ++ cond (p n) (n ∷ []) []
last_one p n = range_more p 0 n n (let at : 0 + n ≡ n = omega arith in at)

-- each place that passes is among them
pub ranged : (p : ℕ → Bool) (n k : ℕ) → p k ≡ true → k < n → Contains (filter p (range_with_len 0 n)) k
ranged p zero k is below = absurd (not-suc-le-zero below)
ranged p (suc n) k is below =
    subst (λ l. Contains l k) (sym (last_one p n))
    (elim (cases_lt k n) [
      | inl less ↦ Contains-append_left (filter p (range_with_len 0 n)) (cond (p n) (n ∷ []) []) k (ranged p n k is less)
      | inr more ↦
          let last : k ≡ n = omega (arith, more, below) in
          subst (λ j. Contains (filter p (range_with_len 0 n) ++ cond (p j) (j ∷ []) []) k) last
          (rw is (Contains-push (filter p (range_with_len 0 n)) k))
    ])

agree_below : (p q : ℕ → Bool) (n : ℕ) → ((k : ℕ) → k < n → p k ≡ q k) → filter p (range_with_len 0 n) ≡ filter q (range_with_len 0 n)
agree_below p q zero same = refl
agree_below p q (suc n) same =
    last_one p n
    ∙ ap₂ (λ (xs : List ℕ) (b : Bool). xs ++ cond b (n ∷ []) []) (agree_below p q n (λ k lt. same k (omega (arith, lt)))) (same n (omega arith))
    ∙ sym (last_one q n)

module _ {X : Type 0} where
  get_front : (xs : List X) (x : X) (k : ℕ) → k < length xs → slice_get (xs ++ x ∷ []) k ≡ slice_get xs k
  get_front [] x k lt = absurd (not-suc-le-zero lt)
  get_front (y ∷ xs) x zero lt = refl
  get_front (y ∷ xs) x (suc k) lt = get_front xs x k (omega (arith, lt))

  get_last : (xs : List X) (x : X) → slice_get (xs ++ x ∷ []) (length xs) ≡ Some x
  get_last [] x = refl
  get_last (y ∷ xs) x = get_last xs x

module _ {X : Type 0} where
  abbrev test : List (Case X) → ℕ → ℕ → Bool
  test cases key k = has_key key (slice_get cases k)

  -- one more case
  pub under_more : (old new : BTreeMap ℕ (Vec ℕ)) (cases : List (Case X)) (c : Case X) → AreUnderKeys old cases
      → ((k : ℕ) → places_under new k ≡ cond (c.key == k) (places_under old k ++ length cases ∷ []) (places_under old k)) → AreUnderKeys new (cases ++ c ∷ [])
  under_more old new cases c under is key =
      is key ∙ by (c.key == key) refl
      ∙ sym (ap (λ n. filter (test (cases ++ c ∷ []) key) (range_with_len 0 n)) (let many : length (cases ++ c ∷ []) ≡ suc (length cases) = omega (arith, length-append cases (c ∷ [])) in many))
    where
      rest : filter (test (cases ++ c ∷ []) key) (range_with_len 0 (length cases)) ≡ places_under old key
      rest = agree_below (test (cases ++ c ∷ []) key) (test cases key) (length cases) (λ k lt. ap (has_key key) (get_front cases c k lt)) ∙ sym (under key)

      whole : (b : Bool) → c.key == key ≡ b → filter (test (cases ++ c ∷ []) key) (range_with_len 0 (suc (length cases))) ≡ places_under old key ++ cond b (length cases ∷ []) []
      whole b at =
          last_one (test (cases ++ c ∷ []) key) (length cases)
          ∙ ap₂ (λ (xs : List ℕ) (t : Bool). xs ++ cond t (length cases ∷ []) []) rest (ap (has_key key) (get_last cases c) ∙ at)

      by : (b : Bool) → c.key == key ≡ b → cond (c.key == key) (places_under old key ++ length cases ∷ []) (places_under old key) ≡ filter (test (cases ++ c ∷ []) key) (range_with_len 0 (suc (length cases)))
      by true at = ap (λ t. cond t (places_under old key ++ length cases ∷ []) (places_under old key)) at ∙ sym (whole true at)
      by false at = ap (λ t. cond t (places_under old key ++ length cases ∷ []) (places_under old key)) at ∙ sym (append-nil (places_under old key)) ∙ sym (whole false at)

  -- a place under a key is one of the cases
  pub within_at : (o : Option (Case X)) (cases : List (Case X)) (key k : ℕ) → slice_get cases k ≡ o → has_key key o ≡ true → k < length cases
  within_at None cases key k is has = absurd (true≢false (sym has))
  within_at (Some c) cases key k is has = slice_get_within cases k c is

  pub under_within : (index : BTreeMap ℕ (Vec ℕ)) (cases : List (Case X)) (key : ℕ) → AreUnderKeys index cases → (i d : ℕ) → i < length (places_under index key) → get_or (places_under index key) i d < length cases
  under_within index cases key under i d lt =
      let passes = subst (λ l. (j e : ℕ) → j < length l → test cases key (get_or l j e) ≡ true) (sym (under key)) (λ j e below. filter_passes (test cases key) (range_with_len 0 (length cases)) j e below) in
      let k = get_or (places_under index key) i d in
      within_at (slice_get cases k) cases key k refl (passes i d lt)

  -- a case with the key is under it
  pub found_under : (index : BTreeMap ℕ (Vec ℕ)) (cases : List (Case X)) (key : ℕ) → AreUnderKeys index cases → (k : ℕ) (d : Case X) → k < length cases → (get_or cases k d).key ≡ key
      → Contains (places_under index key) k
  found_under index cases key under k d lt is =
      subst (λ l. Contains l k) (sym (under key))
      (ranged (test cases key) (length cases) k
      (ap (has_key key) (slice_get-get_or cases k d lt) ∙ ap (λ n. n == key) is ∙ self key) lt)
    where
      self : (n : ℕ) → (n == n) ≡ true
      self n = grind arith

  pub listed_within : (index : BTreeMap ℕ (Vec ℕ)) (cases : List (Case X)) (key : ℕ) → AreUnderKeys index cases → (list : List ℕ) → list ≡ places_under index key → (i : ℕ) → i < length list
      → get_or list i 0 < length cases
  listed_within index cases key under list is i lt = (subst (λ l. i < length l → get_or l i 0 < length cases) (sym is) (under_within index cases key under i 0)) lt
