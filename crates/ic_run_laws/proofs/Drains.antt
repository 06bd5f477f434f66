-- Where no message is left and no call waits for a canister to stop there is no context, and every request is answered.
use Rattle.std.proofs.Common.{◌≡◌, ℕ, zero, suc, ◌<◌, ◌≤◌, nat_lt, Bool, true, false, cond, not, ◌&&◌, List, [], ◌∷◌, map, length, slice_get, Some, None, refl, sym, ap, ◌∙◌, arith, true≢false, not-suc-le-zero, ltb-true}
use Rattle.std.specs.List.{AllByRecursion, flat_map}
use Rattle.std.specs.Option.{IsSome, is_some}
use Rattle.std.proofs.lemmas.Bool.{and_parts}
use Rattle.ic_behaviour.specs.declared.call.CallId.{CallId}
use Rattle.ic_behaviour.specs.declared.call.CallId.TheVariants as call_id
use Rattle.ic_behaviour.specs.declared.call.Origin.{Origin}
use Rattle.ic_behaviour.specs.declared.call.Origin.TheVariants as origin
use Rattle.ic_behaviour.specs.declared.request.Request.{Request}
use Rattle.ic_behaviour.specs.Totals.{total, one}
use Rattle.ic_behaviour.specs.State.{at, same_id, CallContext, waiting, Canister, State}
use Rattle.ic_behaviour.specs.Items.{Item, InCall, InAnswer, InContext, InWaiter, item_of, items_at, items, counted_at, bears, is_answered, is_from, awaited, is_context, Drained}
use Rattle.ic_behaviour.specs.Tallied.{Tallied, is_below, misranked}
use Rattle.ic_run_laws.specs.AllDone.{AllDone}
use Rattle.ic_behaviour.proofs.Weights.{total-append, found, at-self, same_id-self, same_id-is}

-- 1 for all but contexts
abbrev passing : Item → ℕ
passing (InCall o n) = 1
passing (InAnswer o n) = 1
passing (InContext key x) = 0
passing (InWaiter key w) = 1

abbrev rank_in : (CallId → ℕ) → Item → ℕ
rank_in rank (InCall o n) = 0
rank_in rank (InAnswer o n) = 0
rank_in rank (InContext key x) = rank x.id
rank_in rank (InWaiter key w) = 0

none_passes : (key : List ℕ) (xs : List CallContext) → total passing (map (InContext key) xs) ≡ 0
none_passes key [] = refl
none_passes key (x ∷ xs) = omega (arith, none_passes key xs)

no_passing : (es : List (List ℕ × Canister)) → AllByRecursion (λ (e : List ℕ × Canister). waiting e.1.phase ≡ []) es → total passing (flat_map items_at es) ≡ 0
no_passing [] all = refl
no_passing (e ∷ es) all = omega (
  arith,
  total-append passing (items_at e) (flat_map items_at es),
  total-append passing (map (InContext e.0) e.1.contexts) (map (InWaiter e.0) (waiting e.1.phase)),
  none_passes e.0 e.1.contexts,
  ap (λ ws. total passing (map (InWaiter e.0) ws)) all.0,
  no_passing es all.1,
)

each_answered : (rs : List Request) → ((k : ℕ) → k < length rs → one (is_answered (slice_get rs k)) ≡ 1) → AllByRecursion (λ (r : Request). IsSome r.answer) rs
each_answered [] f = tt
each_answered (r ∷ rs) f = (one-true (is_some r.answer) (f 0 (omega arith)), each_answered rs (λ k h. f (suc k) (omega (arith, h)))) where
  one-true : (b : Bool) → one b ≡ 1 → b ≡ true
  one-true true e = refl
  one-true false e = let no : 0 < 0 = omega (arith, e) in absurd (not-suc-le-zero no)

module _ (s : State) (sound : Tallied s) (drained : Drained s) where
  abbrev rank : CallId → ℕ
  rank = sound.ranked.0

  all_contexts : total passing (items s) ≡ 0
  all_contexts = omega (arith, total-append passing (map item_of s.messages) (flat_map items_at s.canisters), ap (λ ms. total passing (map item_of ms)) drained.messages, no_passing s.canisters drained.waiters)

  -- a context of this rank stands
  record Level (n : ℕ) : Type 0 where
    key : List ℕ
    id : CallId
    stands : 0 < total (is_context key id) (items s)
    high : n ≤ rank id

  one-false : (b : Bool) → one b ≡ 0 → b ≡ false
  one-false true e = let no : 0 < 0 = omega (arith, e) in absurd (not-suc-le-zero no)
  one-false false e = refl

  not-true : (b : Bool) → not b ≡ false → b ≡ true
  not-true true e = refl
  not-true false e = absurd (true≢false e)

  -- what awaits a call is below the context that the call made
  higher : (n : ℕ) (key : List ℕ) (id : CallId) → n ≤ rank id → (it : Item) → 0 < awaited key id it → ((v : Item → ℕ) → v it ≤ total v (items s)) → Level (suc n)
  higher n key id high (InCall o m) weighs within = let no : 0 < 0 = omega (arith, within passing, all_contexts) in absurd (not-suc-le-zero no)
  higher n key id high (InAnswer o m) weighs within = let no : 0 < 0 = omega (arith, within passing, all_contexts) in absurd (not-suc-le-zero no)
  higher n key id high (InWaiter other w) weighs within = let no : 0 < 0 = omega (arith, within passing, all_contexts) in absurd (not-suc-le-zero no)
  higher n key id high (InContext other x) weighs within = at_origin x.must_respond refl x.origin refl weighs where
    here : 0 < total (is_context other x.id) (items s)
    here = omega (arith, within (is_context other x.id), ap (λ b. one (b && same_id x.id x.id)) (at-self other), ap one (same_id-self x.id))

    at_origin : (must : Bool) → x.must_respond ≡ must → (o : Origin) → x.origin ≡ o → 0 < counted_at (is_from key id) (cond must (Some o) None) → Level (suc n)
    at_origin false m o e some = absurd (not-suc-le-zero some)
    at_origin true m (origin.Ingress k) e some = absurd (not-suc-le-zero some)
    at_origin true m (origin.Canister caller number context callback) e some = by (at caller key && same_id context id) refl where
      ranked : one (x.must_respond && not (is_below rank x.id x.origin)) ≡ 0
      ranked = omega (arith, within (misranked rank), sound.ranked.1)

      below : nat_lt (rank context) (rank x.id) ≡ true
      below = not-true (nat_lt (rank context) (rank x.id)) (one-false (not (nat_lt (rank context) (rank x.id))) (sym (ap (λ o. one (true && not (is_below rank x.id o))) e) ∙ sym (ap (λ b. one (b && not (is_below rank x.id x.origin))) m) ∙ ranked))

      by : (b : Bool) → (at caller key && same_id context id) ≡ b → Level (suc n)
      by true is =
          let same : context ≡ id = same_id-is context id (and_parts (at caller key) (same_id context id) is).1 in
          record { key = other; id = x.id; stands = here; high = omega (arith, high, ap rank same, ltb-true (rank context) (rank x.id) below) }
      by false is = let no : 0 < 0 = omega (arith, some, ap one is) in absurd (not-suc-le-zero no)

  climb : (n : ℕ) → Level 0 → Level n
  climb zero l = l
  climb (suc n) l =
      let lower = climb n l in
      let it = found (awaited lower.key lower.id) (items s) (sound.awaits lower.key lower.id lower.stands) in
      higher n lower.key lower.id lower.high it.it it.weighs it.within

  bounded : (n : ℕ) → Level n → n ≤ total (rank_in rank) (items s)
  bounded n l = let it = found (is_context l.key l.id) (items s) l.stands in at_item it.it it.weighs it.within where
    at_item : (it : Item) → 0 < is_context l.key l.id it → ((v : Item → ℕ) → v it ≤ total v (items s)) → n ≤ total (rank_in rank) (items s)
    at_item (InCall o m) weighs within = absurd (not-suc-le-zero weighs)
    at_item (InAnswer o m) weighs within = absurd (not-suc-le-zero weighs)
    at_item (InWaiter other w) weighs within = absurd (not-suc-le-zero weighs)
    at_item (InContext other x) weighs within = by (at l.key other && same_id l.id x.id) refl where
      by : (b : Bool) → (at l.key other && same_id l.id x.id) ≡ b → n ≤ total (rank_in rank) (items s)
      by true is = omega (arith, within (rank_in rank), l.high, ap rank (same_id-is l.id x.id (and_parts (at l.key other) (same_id l.id x.id) is).1))
      by false is = let no : 0 < 0 = omega (arith, weighs, ap one is) in absurd (not-suc-le-zero no)

  no_level : Level 0 → ⊥
  no_level l = let top = bounded (suc (total (rank_in rank) (items s))) (climb (suc (total (rank_in rank) (items s))) l) in let no : 0 < 0 = omega (arith, top) in not-suc-le-zero no

  no_contexts_in : (es : List (List ℕ × Canister)) → ((v : Item → ℕ) → total v (flat_map items_at es) ≤ total v (items s)) → AllByRecursion (λ (e : List ℕ × Canister). e.1.contexts ≡ []) es
  no_contexts_in [] within = tt
  no_contexts_in (e ∷ es) within = (none e.1.contexts refl, no_contexts_in es (λ v. omega (arith, within v, total-append v (items_at e) (flat_map items_at es)))) where
    none : (xs : List CallContext) → e.1.contexts ≡ xs → xs ≡ []
    none [] is = refl
    none (x ∷ xs) is =
        let weight : 0 < total (is_context e.0 x.id) (items s) = omega (
          arith,
          within (is_context e.0 x.id),
          total-append (is_context e.0 x.id) (items_at e) (flat_map items_at es),
          total-append (is_context e.0 x.id) (map (InContext e.0) e.1.contexts) (map (InWaiter e.0) (waiting e.1.phase)),
          ap (λ ys. total (is_context e.0 x.id) (map (InContext e.0) ys)) is,
          ap (λ b. one (b && same_id x.id x.id)) (at-self e.0),
          ap one (same_id-self x.id),
        ) in
        absurd (no_level (record { key = e.0; id = x.id; stands = weight; high = omega arith }))

  no_place : (id : CallId) → total (bears id) (items s) ≡ 0
  no_place id = by (total (bears id) (items s)) refl where
    by : (m : ℕ) → total (bears id) (items s) ≡ m → m ≡ 0
    by zero e = refl
    by (suc m) e = let it = found (bears id) (items s) (omega (arith, e)) in absurd (at_item it.it it.within) where
      at_item : (it : Item) → ((v : Item → ℕ) → v it ≤ total v (items s)) → ⊥
      at_item (InCall o n) within = let no : 0 < 0 = omega (arith, within passing, all_contexts) in not-suc-le-zero no
      at_item (InAnswer o n) within = let no : 0 < 0 = omega (arith, within passing, all_contexts) in not-suc-le-zero no
      at_item (InWaiter key w) within = let no : 0 < 0 = omega (arith, within passing, all_contexts) in not-suc-le-zero no
      at_item (InContext key x) within =
          let weight : 0 < total (is_context key x.id) (items s) = omega (arith, within (is_context key x.id), ap (λ b. one (b && same_id x.id x.id)) (at-self key), ap one (same_id-self x.id)) in
          no_level (record { key = key; id = x.id; stands = weight; high = omega arith })

  pub drained_done : AllDone s
  drained_done = record {
    contexts = no_contexts_in s.canisters (λ v. omega (arith, total-append v (map item_of s.messages) (flat_map items_at s.canisters)));
    requests = each_answered s.requests (λ k k_in. omega (arith, sound.asked k k_in, no_place (call_id.Ingress k)));
  }
