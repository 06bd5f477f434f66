-- Totals of weights, and tests of ids.
use Rattle.std.proofs.Common.{◌≡◌, ℕ, zero, suc, ◌+◌, ◌<◌, ◌≤◌, ◌==◌, Bool, true, false, cond, List, [], ◌∷◌, ◌++◌, map, Some, None, refl, sym, ap, ◌∙◌, arith, true≢false}
use Rattle.std.specs.List.{flat_map, AllByRecursion}
use Rattle.std.specs.Cmp.{IsEquivalence, Equal-is}
use Rattle.std.specs.Cmp.Lexicographic.{slice_cmp, nat_list_cmp_total}
use Rattle.std.specs.Ordering.{nat_cmp, eq_by_cmp}
use Rattle.std.proofs.lemmas.Cmp.{eq_by_cmp_equiv}
use Rattle.std.proofs.lemmas.Bool.{and_parts, and_from, eqb-true}
use Rattle.std.proofs.lemmas.Map.Lookups.{exact_bytes}
use Rattle.ic_behaviour.specs.declared.call.CallId.{CallId}
use Rattle.ic_behaviour.specs.declared.call.CallId.TheVariants as call_id
use Rattle.ic_behaviour.specs.Totals.{total, one}
use Rattle.ic_behaviour.specs.State.{at, same_id, id_of, CallContext}
use Rattle.ic_behaviour.specs.Items.{Item, InCall, InAnswer, InContext, InWaiter, counted_at, is_id, bears, mentions, begins}

module _ {A : Type 0} where
  pub total-append : (w : A → ℕ) (xs ys : List A) → total w (xs ++ ys) ≡ total w xs + total w ys
  total-append w [] ys = omega arith
  total-append w (x ∷ xs) ys = omega (arith, total-append w xs ys)

  pub total-map : {B : Type 0} (f : B → A) (w : A → ℕ) (xs : List B) → total w (map f xs) ≡ total (λ x. w (f x)) xs
  total-map f w [] = refl
  total-map f w (x ∷ xs) = omega (arith, total-map f w xs)

  -- a weight is at most another
  pub total-below : (v w : A → ℕ) → ((x : A) → v x ≤ w x) → (xs : List A) → total v xs ≤ total w xs
  total-below v w below [] = omega arith
  total-below v w below (x ∷ xs) = omega (arith, below x, total-below v w below xs)

  pub total-plus : (v w : A → ℕ) (xs : List A) → total (λ x. v x + w x) xs ≡ total v xs + total w xs
  total-plus v w [] = omega arith
  total-plus v w (x ∷ xs) = omega (arith, total-plus v w xs)

  -- where a total is not 0 something has weight
  pub record Found (w : A → ℕ) (xs : List A) : Type 0 where
    pub it : A
    pub weighs : 0 < w it
    pub within : (v : A → ℕ) → v it ≤ total v xs

  pub found : (w : A → ℕ) (xs : List A) → 0 < total w xs → Found w xs
  found w [] h = absurd (lt h) where
    lt : 0 < 0 → ⊥
    lt p = omega arith
  found w (x ∷ xs) h = by (w x) refl (λ more. found w xs more) where
    by : (n : ℕ) → w x ≡ n → (0 < total w xs → Found w xs) → Found w (x ∷ xs)
    by zero e later =
        let rest = later (omega (arith, h, e)) in
        record { it = rest.it; weighs = rest.weighs; within = λ v. omega (arith, rest.within v) }
    by (suc n) e later = record { it = x; weighs = omega (arith, e); within = λ v. omega arith }

  pub total-at : (w : A → ℕ) (front : List A) (x : A) (back : List A) → total w (front ++ x ∷ back) ≡ total w (front ++ back) + w x
  total-at w front x back = omega (arith, total-append w front (x ∷ back), total-append w front back)

  pub each-back : (P : A → Type 0) (front : List A) (x : A) (back : List A) → AllByRecursion P (front ++ back) → P x → AllByRecursion P (front ++ x ∷ back)
  each-back P [] x back all here = (here, all)
  each-back P (y ∷ front) x back all here = (all.0, each-back P front x back all.1 here)

  pub each-map : (P Q : A → Type 0) → ((x : A) → P x → Q x) → (xs : List A) → AllByRecursion P xs → AllByRecursion Q xs
  each-map P Q f [] all = tt
  each-map P Q f (x ∷ xs) all = (f x all.0, each-map P Q f xs all.1)

  -- a total is 0 where each weight is
  pub zero-each : (w : A → ℕ) (P : A → Type 0) → ((x : A) → w x ≡ 0 → P x) → (xs : List A) → total w xs ≡ 0 → AllByRecursion P xs
  zero-each w P f [] e = tt
  zero-each w P f (x ∷ xs) e = (f x (omega (arith, e)), zero-each w P f xs (omega (arith, e)))

  pub each-zero : (w : A → ℕ) (P : A → Type 0) → ((x : A) → P x → w x ≡ 0) → (xs : List A) → AllByRecursion P xs → total w xs ≡ 0
  each-zero w P f [] all = refl
  each-zero w P f (x ∷ xs) all = omega (arith, f x all.0, each-zero w P f xs all.1)

  -- what holds of each element that weighs at most the total, whatever the weight, holds of each
  pub each-within : (P : A → Type 0) (xs : List A) → ((x : A) → ((w : A → ℕ) → w x ≤ total w xs) → P x) → AllByRecursion P xs
  each-within P [] f = tt
  each-within P (x ∷ xs) f = (f x (λ w. omega arith), each-within P xs (λ y within. f y (λ w. omega (arith, within w))))

pub total-flat : {A B : Type 0} (f : A → List B) (w : B → ℕ) (xs : List A) → total w (flat_map f xs) ≡ total (λ x. total w (f x)) xs
total-flat f w [] = refl
total-flat f w (x ∷ xs) = omega (arith, total-append w (f x) (flat_map f xs), total-flat f w xs)

-- Tests of ids

pub laws : IsEquivalence (eq_by_cmp (slice_cmp nat_cmp))
laws = eq_by_cmp_equiv nat_list_cmp_total

pub at-self : (key : List ℕ) → at key key ≡ true
at-self key = laws.refl key

pub at-is : (key other : List ℕ) → at key other ≡ true → key ≡ other
at-is key other is = exact_bytes key other ((Equal-is (slice_cmp nat_cmp key other)).0 is)

pub at-back : (key other : List ℕ) → at key other ≡ false → at other key ≡ false
at-back key other differs = laws.symm other key ∙ differs

pub nat-self : (n : ℕ) → (n == n) ≡ true
nat-self n = grind arith

pub nat-is : (n m : ℕ) → (n == m) ≡ true → n ≡ m
nat-is n m is = eqb-true n m is

pub same_id-self : (id : CallId) → same_id id id ≡ true
same_id-self (call_id.Ingress k) = nat-self k
same_id-self (call_id.Canister caller n) = and_from _ _ (at-self caller) (nat-self n)

pub same_id-is : (id other : CallId) → same_id id other ≡ true → id ≡ other
same_id-is (call_id.Ingress k) (call_id.Ingress l) is = ap call_id.Ingress (nat-is k l is)
same_id-is (call_id.Ingress k) (call_id.Canister caller n) is = absurd (true≢false (sym is))
same_id-is (call_id.Canister caller n) (call_id.Ingress k) is = absurd (true≢false (sym is))
same_id-is (call_id.Canister caller n) (call_id.Canister other m) is =
    let parts = and_parts _ _ is in
    let c : caller ≡ other = at-is caller other parts.0 in
    let e : n ≡ m = nat-is n m parts.1 in
    λ i. call_id.Canister (c i) (e i)

-- a place, or a context, is a mention
open-below : (b : Bool) (id : CallId) (x : CallContext) → counted_at (is_id id) (cond b (Some x.origin) None) ≤ one (same_id id x.id) + one (same_id id (id_of x.origin))
open-below true id x = omega arith
open-below false id x = omega arith

pub bears-mentions : (id : CallId) (item : Item) → bears id item ≤ mentions id item
bears-mentions id (InCall from cycles) = omega arith
bears-mentions id (InAnswer from refund) = omega arith
bears-mentions id (InContext key x) = open-below x.must_respond id x
bears-mentions id (InWaiter key w) = omega arith

pub begins-mentions : (id : CallId) (item : Item) → begins id item ≤ mentions id item
begins-mentions id (InCall from cycles) = omega arith
begins-mentions id (InAnswer from refund) = omega arith
begins-mentions id (InContext key x) = omega arith
begins-mentions id (InWaiter key w) = omega arith
