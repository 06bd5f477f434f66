-- A canister takes a message: a call becomes a context, an answer ends its call's place.
use Rattle.std.proofs.Common.{◌≡◌, ℕ, zero, suc, ◌+◌, ◌<◌, ◌≤◌, nat_lt, Bool, true, false, cond, not, ◌&&◌, ◌⊎◌, List, [], ◌∷◌, Option, Some, None, refl, sym, ap, ◌∙◌, subst, arith, inl, inr, not-suc-le-zero}
use Rattle.std.proofs.lemmas.Bool.{cases_Bool, and_from, lt-ltb}
use Rattle.ic_behaviour.specs.declared.call.CallId.TheVariants as call_id
use Rattle.ic_behaviour.specs.declared.call.Origin.TheVariants as origin
use Rattle.ic_run_laws.proofs.Holds.{Holds, Leaves, Swaps, Within}
use Rattle.ic_behaviour.proofs.Weights.{at-self, found, same_id-is, same_id-self, total-below, total-plus}
use Rattle.ic_behaviour.specs.Items.{InAnswer, InCall, InContext, InWaiter, Item, awaited, bears, begins, calls_of, counted_at, cycles_in, is_context, is_from, mentions, open_at}
use Rattle.ic_behaviour.specs.State.{CallContext, State, at, id_of, same_id}
use Rattle.ic_behaviour.specs.Tallied.{ingress_cycles, is_below, is_ingress, lost_answer, misranked, wrong_flags, wrong_id}
use Rattle.ic_behaviour.specs.Totals.{one, total, when}
use Rattle.ic_behaviour.specs.declared.call.CallId.{CallId}
use Rattle.ic_behaviour.specs.declared.call.Callback.{Callback}
use Rattle.ic_behaviour.specs.declared.call.Origin.{Origin}
use Rattle.ic_behaviour.specs.declared.phase.Waiter.{Waiter}
use Rattle.ic_behaviour.specs.declared.request.Request.{Request}

-- a context that was just made, and its rank: above the one that its origin names
abbrev pub opened_context : Origin → List ℕ → ℕ → CallContext
opened_context o caller n = record { id = id_of o; origin = o; caller = caller; must_respond = true; deleted = false; available = n }

abbrev above : (CallId → ℕ) → Origin → ℕ
above rank (origin.Ingress k) = 0
above rank (origin.Canister caller n context callback) = suc (rank context)

abbrev raised : (CallId → ℕ) → Origin → CallId → ℕ
raised rank o id = cond (same_id (id_of o) id) (above rank o) (rank id)

-- 1 for a context of this id, 1 for a call of this id, 1 for a place whose origin names this context
abbrev with_id : CallId → Item → ℕ
with_id id (InCall o n) = 0
with_id id (InAnswer o n) = 0
with_id id (InContext key x) = one (same_id id x.id)
with_id id (InWaiter key w) = 0

abbrev as_call : CallId → Item → ℕ
as_call id (InCall o n) = one (same_id id (id_of o))
as_call id (InAnswer o n) = 0
as_call id (InContext key x) = 0
as_call id (InWaiter key w) = 0

abbrev is_pointing : CallId → Origin → Bool
is_pointing id (origin.Ingress k) = false
is_pointing id (origin.Canister caller n context callback) = same_id id context

abbrev points : CallId → Item → ℕ
points id item = counted_at (is_pointing id) (open_at item)

begins-parts : (id : CallId) (item : Item) → with_id id item + as_call id item ≤ begins id item
begins-parts id (InCall o n) = omega arith
begins-parts id (InAnswer o n) = omega arith
begins-parts id (InContext key x) = omega arith
begins-parts id (InWaiter key w) = omega arith

one-and : (a b : Bool) → one (a && b) ≤ one b
one-and true b = omega arith
one-and false b = omega arith

context-with_id : (key : List ℕ) (id : CallId) (item : Item) → is_context key id item ≤ with_id id item
context-with_id key id (InCall o n) = omega arith
context-with_id key id (InAnswer o n) = omega arith
context-with_id key id (InContext other x) = one-and (at key other) (same_id id x.id)
context-with_id key id (InWaiter other w) = omega arith

-- a context's rank changes only where it is the new one, or its origin names the new one
module _ (rank : CallId → ℕ) (o : Origin) where
  rank-origin : (b : Bool) (id : CallId) (origin : Origin) (same : Bool) → same_id (id_of o) id ≡ same
      → one (b && not (is_below (raised rank o) id origin)) ≤ one (b && not (is_below rank id origin)) + one same + counted_at (is_pointing (id_of o)) (cond b (Some origin) None)
  rank-origin false id origin same e = omega arith
  rank-origin true id (origin.Ingress k) same e = omega arith
  rank-origin true id origin true e = omega (arith, small (not (is_below (raised rank o) id origin))) where
    small : (b : Bool) → one b ≤ 1
    small true = omega arith
    small false = omega arith
  rank-origin true id (origin.Canister caller n context callback) false e = by (same_id (id_of o) context) refl where
    small : (b : Bool) → one b ≤ 1
    small true = omega arith
    small false = omega arith

    by : (c : Bool) → same_id (id_of o) context ≡ c
        → one (not (nat_lt (raised rank o context) (raised rank o id))) ≤ one (not (nat_lt (rank context) (rank id))) + 0 + one (same_id (id_of o) context)
    by true is = omega (arith, small (not (nat_lt (raised rank o context) (raised rank o id))), ap one is)
    by false is = rw (is, e) (omega arith)

  rank-raised : (item : Item) → misranked (raised rank o) item ≤ (misranked rank item + with_id (id_of o) item) + points (id_of o) item
  rank-raised (InCall p n) = omega arith
  rank-raised (InAnswer p n) = omega arith
  rank-raised (InContext key x) = rank-origin x.must_respond x.id x.origin (same_id (id_of o) x.id) refl
  rank-raised (InWaiter key w) = omega arith

below-suc : (a : ℕ) → nat_lt a (suc a) ≡ true
below-suc a = lt-ltb a (suc a) (omega arith)

module _ (s : State) (key : List ℕ) (off : List ℕ → CallId → Bool) (less : CallId → ℕ) {given : CallId → Type 0} {xs ys : List Item} {rs : List Request} {funds : ℕ} where
  pub taken_call : (o : Origin) (n : ℕ) (caller : List ℕ)
      → ((k : List ℕ) (id : CallId) → (at k key && same_id id (id_of o)) ≡ true → off k id ≡ true)
      → Within (InCall o n ∷ []) xs → Swaps (InCall o n ∷ []) (InContext key (opened_context o caller n) ∷ []) xs ys
      → Holds s key off less given xs rs funds → Holds s key off less given ys rs funds
  taken_call o n caller may within swaps h = record {
    one_place = λ id. omega (arith, h.one_place id, swaps (bears id));
    many = h.many;
    asked = λ k k_in. omega (arith, h.asked k k_in, swaps (bears (call_id.Ingress k)));
    made = λ id some. mention id some;
    names = λ k id some. (let old = h.names k id (omega (arith, some, swaps (awaited k id))) in omega (arith, old, swaps (is_context k id)));
    ids = omega (arith, h.ids, swaps wrong_id, ap (λ b. one (not b)) (same_id-self (id_of o)));
    begun = λ id. omega (arith, h.begun id, swaps (begins id));
    arrives = omega (arith, h.arrives, swaps lost_answer);
    awaits = λ k id some. waiting k id some;
    flags = omega (arith, h.flags, swaps wrong_flags);
    rank = raised h.rank o;
    ranked = omega (
      arith,
      h.ranked,
      total-below (misranked (raised h.rank o)) (λ i. (misranked h.rank i + with_id (id_of o) i) + points (id_of o) i) (rank-raised h.rank o) xs,
      total-plus (λ i. misranked h.rank i + with_id (id_of o) i) (points (id_of o)) xs,
      total-plus (misranked h.rank) (with_id (id_of o)) xs,
      none_with_id,
      none_points,
      swaps (misranked (raised h.rank o)),
      new_rank o refl,
    );
    free = omega (arith, h.free, swaps ingress_cycles);
    conserved = omega (arith, h.conserved, swaps cycles_in);
    placed = λ id is. omega (arith, h.placed id is, swaps (bears id));
    others = λ k id differs. omega (arith, h.others k id differs, swaps (awaited k id));
    others_few = λ k differs. omega (arith, h.others_few k differs, swaps (calls_of k));
  } where
    mention : (id : CallId) → 0 < total (mentions id) ys → given id
    mention id some = by (total (mentions id) xs) refl where
      by : (m : ℕ) → total (mentions id) xs ≡ m → given id
      by (suc m) e = h.made id (omega (arith, e))
      by zero e = let no : 0 < 0 = omega (arith, some, e, swaps (mentions id), within (mentions id)) in absurd (not-suc-le-zero no)

    waiting : (k : List ℕ) (id : CallId) → 0 < total (is_context k id) ys → (0 < total (awaited k id) ys) ⊎ (off k id ≡ true)
    waiting k id some = elim (cases_Bool (at k key && same_id id (id_of o))) [
      | inl is ↦ inr (may k id is)
      | inr differs ↦ elim (h.awaits k id (omega (arith, some, swaps (is_context k id), ap one differs))) [
        | inl calls ↦ inl (omega (arith, calls, swaps (awaited k id)))
        | inr is ↦ inr is
      ]
    ]

    none_with_id : total (with_id (id_of o)) xs ≡ 0
    none_with_id = omega (
      arith,
      h.begun (id_of o),
      total-below (λ i. with_id (id_of o) i + as_call (id_of o) i) (begins (id_of o)) (begins-parts (id_of o)) xs,
      total-plus (with_id (id_of o)) (as_call (id_of o)) xs,
      within (as_call (id_of o)),
      ap one (same_id-self (id_of o)),
    )

    none_stands : (k : List ℕ) → total (is_context k (id_of o)) xs ≡ 0
    none_stands k = omega (arith, none_with_id, total-below (is_context k (id_of o)) (with_id (id_of o)) (context-with_id k (id_of o)) xs)

    none_awaited : (k : List ℕ) → 0 < total (awaited k (id_of o)) xs → ⊥
    none_awaited k some = let old = h.names k (id_of o) some in let no : 0 < 0 = omega (arith, old, none_stands k) in not-suc-le-zero no

    none_points : total (points (id_of o)) xs ≡ 0
    none_points = by (total (points (id_of o)) xs) refl where
      by : (m : ℕ) → total (points (id_of o)) xs ≡ m → m ≡ 0
      by zero e = refl
      by (suc m) e =
          let f = found (points (id_of o)) xs (omega (arith, e)) in
          absurd (pointed (open_at f.it) f.weighs (λ k. f.within (awaited k (id_of o)))) where
            pointed : (p : Option Origin) → 0 < counted_at (is_pointing (id_of o)) p → ((k : List ℕ) → counted_at (is_from k (id_of o)) p ≤ total (awaited k (id_of o)) xs) → ⊥
            pointed None weighs at_most = not-suc-le-zero weighs
            pointed (Some (origin.Ingress k)) weighs at_most = not-suc-le-zero weighs
            pointed (Some (origin.Canister caller m context callback)) weighs at_most = elim (cases_Bool (same_id (id_of o) context)) [
              | inl is ↦
                  let self : same_id context (id_of o) ≡ true = subst (λ i. same_id context i ≡ true) (sym (same_id-is (id_of o) context is)) (same_id-self context) in
                  let both : (at caller caller && same_id context (id_of o)) ≡ true = and_from (at caller caller) (same_id context (id_of o)) (at-self caller) self in
                  none_awaited caller (omega (arith, at_most caller, ap one both))
              | inr differs ↦ (let no : 0 < 0 = omega (arith, weighs, ap one differs) in not-suc-le-zero no)
            ]

    new_rank : (p : Origin) → o ≡ p → misranked (raised h.rank o) (InContext key (opened_context o caller n)) ≡ 0
    new_rank (origin.Ingress k) e = subst (λ q. misranked (raised h.rank q) (InContext key (opened_context q caller n)) ≡ 0) (sym e) refl
    new_rank (origin.Canister c m context callback) e =
        subst (λ q. misranked (raised h.rank q) (InContext key (opened_context q caller n)) ≡ 0) (sym e) (rw (apart, same_id-self (call_id.Canister c m), below-suc) refl) where
          apart : same_id (call_id.Canister c m) context ≡ false
          apart = elim (cases_Bool (same_id (call_id.Canister c m) context)) [
            | inr differs ↦ differs
            | inl is ↦
                let same : id_of o ≡ context = ap id_of e ∙ same_id-is (call_id.Canister c m) context is in
                let both : (at c c && same_id context context) ≡ true = and_from (at c c) (same_id context context) (at-self c) (same_id-self context) in
                let weight : awaited c context (InCall o n) ≡ 1 = ap (λ q. awaited c context (InCall q n)) e ∙ ap one both in
                let some : 0 < total (awaited c context) xs = omega (arith, within (awaited c context), weight) in
                absurd (none_awaited c (subst (λ i. 0 < total (awaited c i) xs) (sym same) some))
          ]

-- a call that waits to be taken has no context that awaits anything
module _ (s : State) (key : List ℕ) (off : List ℕ → CallId → Bool) (less : CallId → ℕ) {given : CallId → Type 0} {xs : List Item} {rs : List Request} {funds : ℕ} where
  pub nothing_awaited : (o : Origin) (n : ℕ) → Within (InCall o n ∷ []) xs → Holds s key off less given xs rs funds → (k : List ℕ) → total (awaited k (id_of o)) xs ≡ 0
  nothing_awaited o n within h k = by (total (awaited k (id_of o)) xs) refl where
    none_with_id : total (with_id (id_of o)) xs ≡ 0
    none_with_id = omega (
      arith,
      h.begun (id_of o),
      total-below (λ i. with_id (id_of o) i + as_call (id_of o) i) (begins (id_of o)) (begins-parts (id_of o)) xs,
      total-plus (with_id (id_of o)) (as_call (id_of o)) xs,
      within (as_call (id_of o)),
      ap one (same_id-self (id_of o)),
    )

    by : (m : ℕ) → total (awaited k (id_of o)) xs ≡ m → m ≡ 0
    by zero e = refl
    by (suc m) e =
        let old = h.names k (id_of o) (omega (arith, e)) in
        let no : 0 < 0 = omega (arith, old, none_with_id, total-below (is_context k (id_of o)) (with_id (id_of o)) (context-with_id k (id_of o)) xs) in
        absurd (not-suc-le-zero no)

-- the answered call has no place any more
module _ (s : State) (key : List ℕ) (off : List ℕ → CallId → Bool) {given : CallId → Type 0} {xs ys : List Item} {rs : List Request} {funds more : ℕ} where
  pub taken_answer : (n : ℕ) (own : CallId) (callback : Callback) (refund : ℕ)
      → ((k : List ℕ) (id : CallId) → (at key k && same_id own id) ≡ true → off k id ≡ true)
      → Within (InAnswer (origin.Canister key n own callback) refund ∷ []) xs → Swaps (InAnswer (origin.Canister key n own callback) refund ∷ []) [] xs ys → more ≡ funds + refund
      → Holds s key off (λ id. 0) given xs rs funds → Holds s key off (λ id. one (same_id id (call_id.Canister key n))) given ys rs more
  taken_answer n own callback refund may within swaps even h = record {
    one_place = λ id. omega (arith, h.one_place id, swaps (bears id));
    many = h.many;
    asked = λ k k_in. omega (arith, h.asked k k_in, swaps (bears (call_id.Ingress k)));
    made = λ id some. h.made id (omega (arith, some, swaps (mentions id)));
    names = λ k id some. (let old = h.names k id (omega (arith, some, swaps (awaited k id))) in omega (arith, old, swaps (is_context k id)));
    ids = omega (arith, h.ids, swaps wrong_id);
    begun = λ id. omega (arith, h.begun id, swaps (begins id));
    arrives = omega (arith, h.arrives, swaps lost_answer);
    awaits = λ k id some. elim (cases_Bool (at key k && same_id own id)) [
      | inl is ↦ inr (may k id is)
      | inr differs ↦ elim (h.awaits k id (omega (arith, some, swaps (is_context k id)))) [
        | inl calls ↦ inl (omega (arith, calls, swaps (awaited k id), ap one differs))
        | inr is ↦ inr is
      ]
    ];
    flags = omega (arith, h.flags, swaps wrong_flags);
    rank = h.rank;
    ranked = omega (arith, h.ranked, swaps (misranked h.rank));
    free = omega (arith, h.free, swaps ingress_cycles);
    conserved = omega (arith, h.conserved, swaps cycles_in, even);
    placed = λ id is. omega (arith, h.placed id is, swaps (bears id));
    others = λ k id differs. omega (arith, h.others k id differs, swaps (awaited k id), ap (λ b. one (b && same_id own id)) differs);
    others_few = λ k differs. omega (arith, h.others_few k differs, swaps (calls_of k), ap one differs);
  }

-- What is left of a call that is refused, of a context that answers, of a waiter that is released
module _ (s : State) (key : List ℕ) (off : List ℕ → CallId → Bool) (less : CallId → ℕ) where
  pub call_leaves : (o : Origin) (n : ℕ) → Leaves s key off less (InCall o n) [] o n
  call_leaves o n = record {
    opens = refl;
    borne = λ id. refl;
    mentioned = λ id some. omega (arith, some);
    calls = λ k id. refl;
    calls_few = λ k. refl;
    stands = λ k id. refl;
    ids = omega arith;
    begun = λ id. omega arith;
    arrives = refl;
    flags = omega arith;
    ranked = λ rank. refl;
    free = omega arith;
    cycles = omega arith;
    ingress = refl;
  }

  pub waiter_leaves : (at_key : List ℕ) (w : Waiter) → Leaves s key off less (InWaiter at_key w) [] w.origin w.cycles
  waiter_leaves at_key w = record {
    opens = refl;
    borne = λ id. refl;
    mentioned = λ id some. omega (arith, some);
    calls = λ k id. refl;
    calls_few = λ k. refl;
    stands = λ k id. refl;
    ids = omega arith;
    begun = λ id. omega arith;
    arrives = refl;
    flags = omega arith;
    ranked = λ rank. refl;
    free = omega arith;
    cycles = omega arith;
    ingress = refl;
  }

  abbrev pub answered_context : CallContext → CallContext
  answered_context x = record x { must_respond = false; available = 0 }

  when-zero : (b : Bool) → when b 0 ≡ 0
  when-zero true = refl
  when-zero false = refl

  and-false : (b : Bool) → one (b && false) ≡ 0
  and-false true = refl
  and-false false = refl

  pub context_leaves : (x : CallContext) → x.must_respond ≡ true → Leaves s key off less (InContext key x) (InContext key (answered_context x) ∷ []) x.origin x.available
  context_leaves x must = record {
    opens = ap (λ b. cond b (Some x.origin) None) must;
    borne = λ id. refl;
    mentioned = λ id some. omega (arith, some);
    calls = λ k id. refl;
    calls_few = λ k. refl;
    stands = λ k id. omega arith;
    ids = omega arith;
    begun = λ id. omega arith;
    arrives = refl;
    flags = omega (arith, and-false x.deleted);
    ranked = λ rank. refl;
    free = omega (arith, when-zero (is_ingress x.origin));
    cycles = omega arith;
    ingress = refl;
  }
