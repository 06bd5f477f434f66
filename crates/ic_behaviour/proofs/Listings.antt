-- The contexts of a state can be listed by their ranks.
use Rattle.std.proofs.Common.{◌≡◌, ℕ, ◌+◌, ◌<◌, ◌≤◌, nat_lt, nat_le, Bool, true, false, cond, not, ◌&&◌, List, [], ◌∷◌, map, Some, None, refl, sym, ap, ◌∙◌, arith, true≢false, not-suc-le-zero, ltb-true, lt-ltb, leb-true, leb-false}
use Rattle.std.specs.List.{AllByRecursion, flat_map}
use Rattle.ic_behaviour.specs.declared.call.CallId.{CallId}
use Rattle.ic_behaviour.specs.declared.call.Origin.{Origin}
use Rattle.ic_behaviour.specs.declared.call.Origin.TheVariants as origin
use Rattle.ic_behaviour.specs.Totals.{total, one}
use Rattle.ic_behaviour.specs.State.{at, same_id, CallContext, waiting, Canister, State}
use Rattle.ic_behaviour.specs.Items.{Item, InCall, InAnswer, InContext, InWaiter, item_of, items_at, items, is_context, begins, counted_at, is_from, awaited}
use Rattle.ic_behaviour.specs.Sound.{place_in, StandsBehind, IsListing}
use Rattle.ic_behaviour.specs.Tallied.{Tallied, is_below, misranked}
use Rattle.ic_behaviour.proofs.Weights.{total-append, total-map, total-below, each-within, at-self, same_id-self, same_id-is}
use Rattle.ic_behaviour.proofs.Spots.{no_contexts, no_waiters}
use Rattle.ic_behaviour.proofs.Parts.{behind-from}

-- ids in rising rank
module _ (rank : CallId → ℕ) where
  abbrev put : CallId → List CallId → List CallId
  put id [] = id ∷ []
  put id (x ∷ xs) = cond (nat_le (rank id) (rank x)) (id ∷ x ∷ xs) (x ∷ put id xs)

  abbrev sorted : List CallId → List CallId
  sorted [] = []
  sorted (x ∷ xs) = put x (sorted xs)

  total-put : (w : CallId → ℕ) (id : CallId) (xs : List CallId) → total w (put id xs) ≡ w id + total w xs
  total-put w id [] = refl
  total-put w id (x ∷ xs) = by (nat_le (rank id) (rank x)) (total-put w id xs) where
    by : (b : Bool) → total w (put id xs) ≡ w id + total w xs → total w (cond b (id ∷ x ∷ xs) (x ∷ put id xs)) ≡ w id + total w (x ∷ xs)
    by true e = refl
    by false e = omega (arith, e)

  total-sorted : (w : CallId → ℕ) (xs : List CallId) → total w (sorted xs) ≡ total w xs
  total-sorted w [] = refl
  total-sorted w (x ∷ xs) = omega (arith, total-put w x (sorted xs), total-sorted w xs)

  abbrev Rises : List CallId → Type 0
  Rises [] = Unit {0}
  Rises (x ∷ xs) = AllByRecursion (λ y. rank x ≤ rank y) xs × Rises xs

  all-below : (n m : ℕ) → n ≤ m → (xs : List CallId) → AllByRecursion (λ y. m ≤ rank y) xs → AllByRecursion (λ y. n ≤ rank y) xs
  all-below n m h [] all = tt
  all-below n m h (x ∷ xs) all = (omega (arith, h, all.0), all-below n m h xs all.1)

  all-put : (n : ℕ) (id : CallId) (xs : List CallId) → n ≤ rank id → AllByRecursion (λ y. n ≤ rank y) xs → AllByRecursion (λ y. n ≤ rank y) (put id xs)
  all-put n id [] h all = (h, tt)
  all-put n id (x ∷ xs) h all = by (nat_le (rank id) (rank x)) (all-put n id xs h all.1) where
    by : (b : Bool) → AllByRecursion (λ y. n ≤ rank y) (put id xs) → AllByRecursion (λ y. n ≤ rank y) (cond b (id ∷ x ∷ xs) (x ∷ put id xs))
    by true later = (h, all)
    by false later = (all.0, later)

  rises-put : (id : CallId) (xs : List CallId) → Rises xs → Rises (put id xs)
  rises-put id [] r = (tt, tt)
  rises-put id (x ∷ xs) r = by (nat_le (rank id) (rank x)) refl (rises-put id xs r.1) where
    by : (b : Bool) → nat_le (rank id) (rank x) ≡ b → Rises (put id xs) → Rises (cond b (id ∷ x ∷ xs) (x ∷ put id xs))
    by true e later = let low : rank id ≤ rank x = leb-true (rank id) (rank x) e in ((low, all-below (rank id) (rank x) low xs r.0), r)
    by false e later = let high : rank x < rank id = leb-false (rank id) (rank x) e in (all-put (rank x) id xs (omega (arith, high)) r.0, later)

  rises-sorted : (xs : List CallId) → Rises (sorted xs)
  rises-sorted [] = tt
  rises-sorted (x ∷ xs) = rises-put x (sorted xs) (rises-sorted xs)

  at_least : (n : ℕ) (id : CallId) (xs : List CallId) → AllByRecursion (λ y. n ≤ rank y) xs → 0 < total (λ i. one (same_id id i)) xs → n ≤ rank id
  at_least n id [] all some = absurd (not-suc-le-zero some)
  at_least n id (x ∷ xs) all some = by (same_id id x) refl (λ more. at_least n id xs all.1 more) where
    by : (b : Bool) → same_id id x ≡ b → (0 < total (λ i. one (same_id id i)) xs → n ≤ rank id) → n ≤ rank id
    by true is later = omega (arith, all.0, ap rank (same_id-is id x is))
    by false is later = later (omega (arith, some, ap one is))

  -- of two that are there the lower comes first
  stands_before : (low high : CallId) (xs : List CallId) → Rises xs → 0 < total (λ i. one (same_id low i)) xs → 0 < total (λ i. one (same_id high i)) xs → rank low < rank high → place_in xs low < place_in xs high
  stands_before low high [] r a b h = absurd (not-suc-le-zero a)
  stands_before low high (x ∷ xs) r a b h = by (same_id low x) refl (same_id high x) refl (λ c d. stands_before low high xs r.1 c d h) where
    by : (p : Bool) → same_id low x ≡ p → (q : Bool) → same_id high x ≡ q
        → (0 < total (λ i. one (same_id low i)) xs → 0 < total (λ i. one (same_id high i)) xs → place_in xs low < place_in xs high) → place_in (x ∷ xs) low < place_in (x ∷ xs) high
    by true e true f later = let bad : 0 < 0 = omega (arith, h, ap rank (same_id-is low x e), ap rank (same_id-is high x f)) in absurd (not-suc-le-zero bad)
    by true e false f later = rw (e, f) (omega arith)
    by false e true f later =
        let low_stands : rank x ≤ rank low = at_least (rank x) low xs r.0 (omega (arith, a, ap one e)) in
        let bad : 0 < 0 = omega (arith, h, low_stands, ap rank (same_id-is high x f)) in absurd (not-suc-le-zero bad)
    by false e false f later = let inner = later (omega (arith, a, ap one e)) (omega (arith, b, ap one f)) in rw (e, f) (omega (arith, inner))

module _ (s : State) (tallied : Tallied s) where
  abbrev ids_at : List ℕ × Canister → List CallId
  ids_at e = map (λ (x : CallContext). x.id) e.1.contexts

  abbrev ids : List CallId
  ids = flat_map ids_at s.canisters

  one-of-and : (a b : Bool) → one (a && b) ≤ one b
  one-of-and true b = omega arith
  one-of-and false b = omega arith

  in_contexts : (key other : List ℕ) (id : CallId) (xs : List CallContext) → total (λ x. is_context key id (InContext other x)) xs ≤ total (λ (x : CallContext). one (same_id id x.id)) xs
  in_contexts key other id xs = total-below (λ x. is_context key id (InContext other x)) (λ (x : CallContext). one (same_id id x.id)) (λ x. one-of-and (at key other) (same_id id x.id)) xs

  in_canisters : (key : List ℕ) (id : CallId) (es : List (List ℕ × Canister)) → total (is_context key id) (flat_map items_at es) ≤ total (λ i. one (same_id id i)) (flat_map ids_at es)
  in_canisters key id [] = omega arith
  in_canisters key id (e ∷ es) = omega (
    arith,
    in_canisters key id es,
    total-append (is_context key id) (items_at e) (flat_map items_at es),
    total-append (is_context key id) (map (InContext e.0) e.1.contexts) (map (InWaiter e.0) (waiting e.1.phase)),
    total-map (InContext e.0) (is_context key id) e.1.contexts,
    total-map (InWaiter e.0) (is_context key id) (waiting e.1.phase),
    no_waiters key e.0 id (waiting e.1.phase),
    in_contexts key e.0 id e.1.contexts,
    total-append (λ i. one (same_id id i)) (ids_at e) (flat_map ids_at es),
    total-map (λ (x : CallContext). x.id) (λ i. one (same_id id i)) e.1.contexts,
  )

  begun_in : (id : CallId) (es : List (List ℕ × Canister)) → total (λ i. one (same_id id i)) (flat_map ids_at es) ≤ total (begins id) (flat_map items_at es)
  begun_in id [] = omega arith
  begun_in id (e ∷ es) = omega (
    arith,
    begun_in id es,
    total-append (begins id) (items_at e) (flat_map items_at es),
    total-append (begins id) (map (InContext e.0) e.1.contexts) (map (InWaiter e.0) (waiting e.1.phase)),
    total-map (InContext e.0) (begins id) e.1.contexts,
    total-append (λ i. one (same_id id i)) (ids_at e) (flat_map ids_at es),
    total-map (λ (x : CallContext). x.id) (λ i. one (same_id id i)) e.1.contexts,
  )

  abbrev pub listed : List CallId
  listed = sorted tallied.ranked.0 ids

  stands_listed : (key : List ℕ) (id : CallId) → 0 < total (is_context key id) (items s) → 0 < total (λ i. one (same_id id i)) listed
  stands_listed key id some = omega (
    arith,
    some,
    total-sorted tallied.ranked.0 (λ i. one (same_id id i)) ids,
    in_canisters key id s.canisters,
    total-append (is_context key id) (map item_of s.messages) (flat_map items_at s.canisters),
    total-map item_of (is_context key id) s.messages,
    no_contexts key id s.messages,
  )

  false-of : (b : Bool) → one b ≡ 0 → b ≡ false
  false-of true e = let bad : 0 < 0 = omega (arith, e) in absurd (not-suc-le-zero bad)
  false-of false e = refl

  true-of-not : (b : Bool) → not b ≡ false → b ≡ true
  true-of-not true e = refl
  true-of-not false e = absurd (true≢false e)

  in_order : (it : Item) → ((v : Item → ℕ) → v it ≤ total v (items s)) → misranked (place_in listed) it ≡ 0
  in_order (InCall o n) within = refl
  in_order (InAnswer o n) within = refl
  in_order (InWaiter key w) within = refl
  in_order (InContext key x) within = by x.must_respond refl x.origin refl where
    by : (must : Bool) → x.must_respond ≡ must → (o : Origin) → x.origin ≡ o → one (must && not (is_below (place_in listed) x.id o)) ≡ 0
    by false m o e = refl
    by true m (origin.Ingress k) e = refl
    by true m (origin.Canister caller n context callback) e =
        let here : 0 < total (is_context key x.id) (items s) = omega (arith, within (is_context key x.id), ap (λ b. one (b && same_id x.id x.id)) (at-self key), ap one (same_id-self x.id)) in
        let calls : 0 < total (awaited caller context) (items s) = omega (
          arith,
          within (awaited caller context),
          ap (λ b. counted_at (is_from caller context) (cond b (Some x.origin) None)) m,
          ap (λ o. one (is_from caller context o)) e,
          ap (λ b. one (b && same_id context context)) (at-self caller),
          ap one (same_id-self context),
        ) in
        let ranked : one (x.must_respond && not (is_below tallied.ranked.0 x.id x.origin)) ≡ 0 = omega (arith, within (misranked tallied.ranked.0), tallied.ranked.1) in
        let lower : nat_lt (tallied.ranked.0 context) (tallied.ranked.0 x.id) ≡ true = true-of-not (nat_lt (tallied.ranked.0 context) (tallied.ranked.0 x.id)) (false-of (not (nat_lt (tallied.ranked.0 context) (tallied.ranked.0 x.id)))
        (sym (ap (λ o. one (true && not (is_below tallied.ranked.0 x.id o))) e) ∙ sym (ap (λ b. one (b && not (is_below tallied.ranked.0 x.id x.origin))) m) ∙ ranked)) in
        let first = stands_before tallied.ranked.0 context x.id listed (rises-sorted tallied.ranked.0 ids) (stands_listed caller context (tallied.names caller context calls)) (stands_listed key x.id here)
        (ltb-true (tallied.ranked.0 context) (tallied.ranked.0 x.id) lower) in
        ap (λ b. one (not b)) (lt-ltb (place_in listed context) (place_in listed x.id) first)

  pub listing : IsListing s listed
  listing = record {
    complete = stands_listed;
    once = λ id. omega (arith, tallied.begun id, total-sorted tallied.ranked.0 (λ i. one (same_id id i)) ids, begun_in id s.canisters, total-append (begins id) (map item_of s.messages) (flat_map items_at s.canisters));
    behind = each-within (StandsBehind listed) (items s) (λ it within. behind-from listed it (in_order it within));
  }
