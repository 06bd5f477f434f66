-- The ways of the messages so far, in a set, and the places of the first message of each way.
use Rattle.std.proofs.Common.{◌≡◌, ◌||◌, ◌&&◌, ◌==◌, not, ℕ, zero, suc, ◌+◌, Bool, true, false, cond, Ordering, List, [], ◌∷◌, ◌++◌, ◌<◌, length, take, Option, Some, None, refl, sym, ap, ap₂, ◌∙◌, subst, inl, inr, not-suc-le-zero, arith}
use Rattle.std.specs.Prelude.{slice_get, MatchOption}
use Rattle.std.specs.List.{list_any, filter, range_with_len, Contains}
use Rattle.std.specs.BTreeMap.{is_at}
use Rattle.std.specs.BTreeSet.{BTreeSet, contains}
use Rattle.std.specs.BTreeSet as set
use Rattle.std.proofs.lemmas.Bool.Decides.{nat_tests}
use Rattle.std.proofs.lemmas.Bool.{cases_lt, not-true, true≢false}
use Rattle.std.proofs.lemmas.List.Elements.{All-contains, Contains-append_left, Contains-push, filter_passes}
use Rattle.std.proofs.lemmas.List.Folds.{list_any-append}
use Rattle.ic_behaviour.specs.declared.call.Message.{Message}
use Rattle.ic_behaviour.specs.State.{State}
use Rattle.ic_behaviour.proofs.Weights.{laws}
use Rattle.ic_order.specs.declared.way.Way.{Way}
use Rattle.ic_order.specs.declared.way.Way.TheVariants.{Calls, Asks, Answers}
use Rattle.ic_order.specs.Ways.{way_of, equal_ways, is_on, MayComeNext, leads, may_come, next_places}
use Rattle.ic_order.specs.Seen.{has_way}
use Rattle.ic_order.proofs.Comes.{within}

-- ---- sets of ways

any_same : {X : Type 0} (p q : X → Bool) → ((x : X) → p x ≡ q x) → (xs : List X) → list_any p xs ≡ list_any q xs
any_same p q same [] = refl
any_same p q same (x ∷ xs) = ap₂ (λ b c. b || c) (same x) (any_same p q same xs)

number-back : (k l : ℕ) → (k == l) ≡ (l == k)
number-back k l = grind (arith, nat_tests)

back : (way other : Way) → equal_ways way other ≡ equal_ways other way
back (Calls sender callee) (Calls other another) = ap₂ (λ b c. b && c) (laws.symm sender other) (laws.symm callee another)
back (Asks k) (Asks l) = number-back k l
back (Answers caller n) (Answers other m) = ap₂ (λ b c. b && c) (laws.symm caller other) (number-back n m)
back (Calls sender callee) (Asks l) = refl
back (Calls sender callee) (Answers other m) = refl
back (Asks k) (Calls sender callee) = refl
back (Asks k) (Answers other m) = refl
back (Answers caller n) (Calls sender callee) = refl
back (Answers caller n) (Asks l) = refl

either : (b c : Bool) → cond b true c ≡ (c || b)
either true true = refl
either true false = refl
either false true = refl
either false false = refl

-- a set finds a way by comparing
module _ (cmp : Way → Way → Ordering) (same : (way other : Way) → is_at (cmp way) other ≡ equal_ways way other) where
  has_way-is : (ways : BTreeSet Way) (way : Way) → contains cmp ways way ≡ has_way ways way
  has_way-is ways way = any_same (is_at (cmp way)) (equal_ways way) (same way) ways.keys

  pub kept : (old new : BTreeSet Way) (key : Way) → set.UpdatesBy cmp (cmp key) old new true → (other : Way) → has_way new other ≡ (has_way old other || equal_ways other key)
  kept old new key updates other =
      sym (has_way-is new other) ∙ updates.0 other
      ∙ ap₂ (λ (b c : Bool). cond b true c) (same key other ∙ back key other) (has_way-is old other)
      ∙ either (equal_ways other key) (has_way old other)

-- ---- one message more

take_more : (ms : List Message) (i : ℕ) (m : Message) → slice_get ms i ≡ Some m → take (suc i) ms ≡ take i ms ++ m ∷ []
take_more [] i m is = cc
take_more (n ∷ ms) zero m is = let same : n ≡ m = cc in ap (λ x. x ∷ []) same
take_more (n ∷ ms) (suc i) m is = ap (λ l. n ∷ l) (take_more ms i m is)

kept_by : (b : Bool) (a : ℕ) (xs ys zs : List ℕ) → xs ≡ ys ++ zs → cond b (a ∷ xs) xs ≡ cond b (a ∷ ys) ys ++ zs
kept_by true a xs ys zs same = ap (λ l. a ∷ l) same
kept_by false a xs ys zs same = same

range_more : (p : ℕ → Bool) (a n j : ℕ) → a + n ≡ j → filter p (range_with_len a (suc n)) ≡ filter p (range_with_len a n) ++ cond (p j) (j ∷ []) []
range_more p a zero j is = ap (λ k. cond (p k) (k ∷ []) []) (let at : a ≡ j = omega (arith, is) in at)
range_more p a (suc n) j is =
    kept_by (p a) a (filter p (range_with_len (a + 1) (suc n))) (filter p (range_with_len (a + 1) n)) (cond (p j) (j ∷ []) [])
    (range_more p (a + 1) n j (let at : a + 1 + n ≡ j = omega (arith, is) in at))

module _ (ms : List Message) (i : ℕ) (m : Message) (is : slice_get ms i ≡ Some m) where
  pub ways_more : (before after : Way → Bool) → ((way : Way) → before way ≡ list_any (is_on way) (take i ms)) → ((way : Way) → after way ≡ (before way || equal_ways way (way_of m)))
      → (way : Way) → after way ≡ list_any (is_on way) (take (i + 1) ms)
  ways_more before after so_far more way =
      more way ∙ ap (λ b. b || is_on way m) (so_far way)
      ∙ or_one (list_any (is_on way) (take i ms)) (is_on way m)
      ∙ sym (list_any-append (is_on way) (take i ms) (m ∷ []))
      ∙ sym (ap (list_any (is_on way)) (take_more ms i m is))
      ∙ ap (λ n. list_any (is_on way) (take n ms)) (let next : suc i ≡ i + 1 = omega arith in next)
    where
      or_one : (b c : Bool) → (b || c) ≡ (b || (c || false))
      or_one true c = refl
      or_one false true = refl
      or_one false false = refl

  pub places_more : (new : Bool) → new ≡ not (list_any (is_on (way_of m)) (take i ms))
      → filter (may_come ms) (range_with_len 0 (i + 1)) ≡ filter (may_come ms) (range_with_len 0 i) ++ cond new (i ∷ []) []
  places_more new is_new =
      ap (λ n. filter (may_come ms) (range_with_len 0 n)) (let next : i + 1 ≡ suc i = omega arith in next)
      ∙ range_more (may_come ms) 0 i i (let at : 0 + i ≡ i = omega arith in at)
      ∙ ap (λ b. filter (may_come ms) (range_with_len 0 i) ++ cond b (i ∷ []) []) (ap (leads (take i ms)) is ∙ sym is_new)

-- ---- all places

comes : (earlier : List Message) (o : Option Message) → leads earlier o ≡ true → MatchOption o ⊥ (λ m. list_any (is_on (way_of m)) earlier ≡ false)
comes earlier None is = absurd (true≢false (sym is))
comes earlier (Some m) is = not-true _ is

is_comes : (earlier : List Message) (o : Option Message) → MatchOption o ⊥ (λ m. list_any (is_on (way_of m)) earlier ≡ false) → leads earlier o ≡ true
is_comes earlier None may = absurd may
is_comes earlier (Some m) may = ap not may

ranged : (p : ℕ → Bool) (n k : ℕ) → p k ≡ true → k < n → Contains (filter p (range_with_len 0 n)) k
ranged p zero k is below = absurd (not-suc-le-zero below)
ranged p (suc n) k is below =
    subst (λ l. Contains l k) (sym (range_more p 0 n n (let at : 0 + n ≡ n = omega arith in at)))
    (elim (cases_lt k n) [
      | inl less ↦ Contains-append_left (filter p (range_with_len 0 n)) (cond (p n) (n ∷ []) []) k (ranged p n k is less)
      | inr more ↦
          let last : k ≡ n = omega (arith, more, below) in
          subst (λ j. Contains (filter p (range_with_len 0 n) ++ cond (p j) (j ∷ []) []) k) last
          (rw is (Contains-push (filter p (range_with_len 0 n)) k))
    ])

pub listed : (s : State) (place : ℕ) → MayComeNext s place → Contains (next_places s.messages) place
listed s place may =
    ranged (may_come s.messages) (length s.messages) place (is_comes (take place s.messages) (slice_get s.messages place) may) (within s place may)

pub only : (s : State) (place : ℕ) → Contains (next_places s.messages) place → MayComeNext s place
only s place is =
    comes (take place s.messages) (slice_get s.messages place)
    (All-contains (λ k. may_come s.messages k ≡ true) (next_places s.messages) place (filter_passes (may_come s.messages) (range_with_len 0 (length s.messages))) is)
