-- What a canister keeps by itself, over the changes of its contexts.
use Rattle.std.proofs.Common.{◌≡◌, ℕ, ◌+◌, ◌-◌, ◌≤◌, ◌^◌, Bool, true, false, cond, List, [], ◌∷◌, ◌++◌, length, None, find, refl, sym, ap, ◌∙◌, subst, arith}
use Rattle.std.specs.List.{AllByRecursion, filter}
use Rattle.std.specs.List.Sorted.{IsStrictlySortedBy}
use Rattle.std.specs.Option.{IsSome}
use Rattle.std.specs.Ordering.{nat_cmp}
use Rattle.std.specs.Cmp.Lexicographic.{slice_cmp}
use Rattle.std.proofs.lemmas.Bool.Decides.{nat_tests}
use Rattle.ic_behaviour.specs.declared.call.CallId.{CallId}
use Rattle.ic_behaviour.specs.declared.context.Context.{Context}
use Rattle.ic_behaviour.specs.declared.phase.Waiter.{Waiter}
use Rattle.ic_behaviour.specs.declared.phase.Phase.{Phase}
use Rattle.ic_behaviour.specs.declared.phase.Phase.TheVariants.{Running, Stopping, Stopped}
use Rattle.ic_behaviour.specs.Totals.{total, one}
use Rattle.ic_behaviour.specs.State.{same_id, waiting}
use Rattle.ic_behaviour.specs.Executing.{is_own}
use Rattle.ic_behaviour.specs.Closing.{is_open, phase_after}
use Rattle.ic_behaviour.proofs.Weights.{total-append, total-at, each-map, same_id-is}
use Rattle.ic_state.specs.declared.canister.Canister.{Canister}
use Rattle.ic_state.specs.IsCanister.{IsContext, IsCanister, FitsCode, cycles_of}
use Rattle.ic_calls.proofs.Splits.{none_before}

-- ---- lists

module _ {A : Type 0} where
  pub each-here : (P : A → Type 0) (front : List A) (x : A) (back : List A) → AllByRecursion P (front ++ x ∷ back) → P x
  each-here P [] x back all = all.0
  each-here P (y ∷ front) x back all = each-here P front x back all.1

  pub each-swap : (P Q : A → Type 0) → ((z : A) → P z → Q z) → (front : List A) (x y : A) (back : List A) → AllByRecursion P (front ++ x ∷ back) → Q y → AllByRecursion Q (front ++ y ∷ back)
  each-swap P Q f [] x y back all here = (here, each-map P Q f back all.1)
  each-swap P Q f (z ∷ front) x y back all here = (f z all.0, each-swap P Q f front x y back all.1 here)

  each-push : (P : A → Type 0) (xs : List A) (x : A) → AllByRecursion P xs → P x → AllByRecursion P (xs ++ x ∷ [])
  each-push P [] x all here = (here, tt)
  each-push P (y ∷ xs) x all here = (all.0, each-push P xs x all.1 here)

  each-filter : (P : A → Type 0) (test : A → Bool) (xs : List A) → AllByRecursion P xs → AllByRecursion P (filter test xs)
  each-filter P test [] all = tt
  each-filter P test (x ∷ xs) all = by (test x) (each-filter P test xs all.1) where
    by : (b : Bool) → AllByRecursion P (filter test xs) → AllByRecursion P (cond b (x ∷ filter test xs) (filter test xs))
    by true rest = (all.0, rest)
    by false rest = rest

  pub total-filter : (w : A → ℕ) (test : A → Bool) (xs : List A) → total w (filter test xs) ≤ total w xs
  total-filter w test [] = omega arith
  total-filter w test (x ∷ xs) = by (test x) (total-filter w test xs) where
    by : (b : Bool) → total w (filter test xs) ≤ total w xs → total w (cond b (x ∷ filter test xs) (filter test xs)) ≤ w x + total w xs
    by true rest = omega (arith, rest)
    by false rest = omega (arith, rest)

  -- a total is the same where what goes has no weight
  pub total-kept : (w : A → ℕ) (test : A → Bool) → ((x : A) → test x ≡ false → w x ≡ 0) → (xs : List A) → total w (filter test xs) ≡ total w xs
  total-kept w test none [] = refl
  total-kept w test none (x ∷ xs) = by (test x) refl (total-kept w test none xs) where
    by : (b : Bool) → test x ≡ b → total w (filter test xs) ≡ total w xs → total w (cond b (x ∷ filter test xs) (filter test xs)) ≡ w x + total w xs
    by true e rest = omega (arith, rest)
    by false e rest = omega (arith, rest, none x e)

-- ---- one context is changed

pub record Changed (c d : Canister) (front : List Context) (x y : Context) (back : List Context) : Type 0 where
  pub was : c.contexts ≡ front ++ x ∷ back
  pub now : d.contexts ≡ front ++ y ∷ back
  pub id : y.id ≡ x.id
  pub deleted : y.deleted ≡ x.deleted
  pub context : IsContext x → IsContext y
  pub code : d.code ≡ c.code
  pub controllers : d.controllers ≡ c.controllers
  pub outstanding : d.outstanding + x.outstanding ≡ c.outstanding + y.outstanding
  pub few : d.outstanding ≤ 500
  pub cycles : cycles_of d ≤ 2 ^ 127 - 1
  pub fits : FitsCode d.code d.store.lists
  pub idle : d.store.begun ≡ None

module _ (c d : Canister) (front : List Context) (x y : Context) (back : List Context) (changed : Changed c d front x y back) (is : IsCanister c) where
  abbrev HasCode : Canister → Context → Type 0
  HasCode a z = z.deleted ≡ false → IsSome a.code

  was_each : (P : Context → Type 0) → AllByRecursion P c.contexts → AllByRecursion P (front ++ x ∷ back)
  was_each P all = subst (AllByRecursion P) changed.was all

  now_each : (P : Context → Type 0) → AllByRecursion P (front ++ y ∷ back) → AllByRecursion P d.contexts
  now_each P all = subst (AllByRecursion P) (sym changed.now) all

  has_code : (z : Context) → HasCode c z → HasCode d z
  has_code z h e = subst IsSome (sym changed.code) (h e)

  totals : (w : Context → ℕ) → total w d.contexts + w x ≡ total w c.contexts + w y
  totals w = omega (arith, total-at w front x back, total-at w front y back, ap (total w) changed.was, ap (total w) changed.now)

  pub changed_keeps : IsCanister d
  changed_keeps = record {
    contexts = now_each IsContext (each-swap IsContext IsContext (λ z h. h) front x y back (was_each IsContext is.contexts) (changed.context (each-here IsContext front x back (was_each IsContext is.contexts))));
    once = λ id. omega (arith, totals (λ (z : Context). one (same_id id z.id)), is.once id, ap (λ i. one (same_id id i)) changed.id);
    has_code = now_each (HasCode d) (each-swap (HasCode c) (HasCode d) has_code front x y back (was_each (HasCode c) is.has_code)
        (λ e. has_code x (each-here (HasCode c) front x back (was_each (HasCode c) is.has_code)) (sym changed.deleted ∙ e)));
    counts = omega (arith, totals (λ (z : Context). z.outstanding), is.counts, changed.outstanding);
    few = changed.few;
    cycles = changed.cycles;
    controllers = subst (λ l. length l ≤ 10) (sym changed.controllers) is.controllers;
    rising = subst (IsStrictlySortedBy (slice_cmp nat_cmp)) (sym changed.controllers) is.rising;
    fits = changed.fits;
    idle = changed.idle;
  }

-- ---- a context is made

one-once : (b : Bool) (n : ℕ) → n ≤ 1 → (b ≡ true → n ≡ 0) → n + one b ≤ 1
one-once true n few none = omega (arith, none refl)
one-once false n few none = omega (arith, few)

none-same : (id : CallId) (xs : List Context) → AllByRecursion (λ (y : Context). is_own id y ≡ false) xs → total (λ (y : Context). one (same_id id y.id)) xs ≡ 0
none-same id [] all = refl
none-same id (y ∷ xs) all = omega (arith, ap one all.0, none-same id xs all.1)

pub made_keeps : (c d : Canister) (x : Context) → IsCanister c → d ≡ record c { contexts = c.contexts ++ x ∷ [] } → IsContext x → IsSome c.code → x.outstanding ≡ 0
    → find (is_own x.id) c.contexts ≡ None → cycles_of c + x.available ≤ 2 ^ 127 - 1 → IsCanister d
made_keeps c d x is now context code unused fresh room = subst IsCanister (sym now) (record {
  contexts = each-push IsContext c.contexts x is.contexts context;
  once = λ id. omega (arith, more (λ (z : Context). one (same_id id z.id)), once id);
  has_code = each-push (λ z. z.deleted ≡ false → IsSome c.code) c.contexts x is.has_code (λ e. code);
  counts = omega (arith, more (λ (z : Context). z.outstanding), is.counts, unused);
  few = is.few;
  cycles = omega (arith, more (λ (z : Context). z.available), room);
  controllers = is.controllers;
  rising = is.rising;
  fits = is.fits;
  idle = is.idle;
}) where
  more : (w : Context → ℕ) → total w (c.contexts ++ x ∷ []) ≡ total w c.contexts + w x
  more w = omega (arith, total-append w c.contexts (x ∷ []))

  once : (id : CallId) → total (λ (z : Context). one (same_id id z.id)) c.contexts + one (same_id id x.id) ≤ 1
  once id = one-once (same_id id x.id) _ (is.once id) (λ e. subst (λ i. total (λ (z : Context). one (same_id i z.id)) c.contexts ≡ 0) (sym (same_id-is id x.id e)) (none-same x.id c.contexts (none_before (is_own x.id) c.contexts fresh)))

-- ---- contexts close

waits-less : (phase : Phase) (contexts : List Context) → total (λ (w : Waiter). w.cycles) (waiting (phase_after phase contexts)) ≤ total (λ (w : Waiter). w.cycles) (waiting phase)
waits-less Running contexts = omega arith
waits-less (Stopping waiters) [] = omega arith
waits-less (Stopping waiters) (x ∷ contexts) = omega arith
waits-less Stopped contexts = omega arith

not_open : (x : Context) → is_open x ≡ false → x.outstanding ≡ 0
not_open x e = grind (arith, nat_tests)

pub closed_keeps : (c : Canister) → IsCanister c → IsCanister (record c { contexts = filter is_open c.contexts; phase = phase_after c.phase (filter is_open c.contexts) })
closed_keeps c is = record {
  contexts = each-filter IsContext is_open c.contexts is.contexts;
  once = λ id. omega (arith, total-filter (λ (z : Context). one (same_id id z.id)) is_open c.contexts, is.once id);
  has_code = each-filter (λ z. z.deleted ≡ false → IsSome c.code) is_open c.contexts is.has_code;
  counts = is.counts ∙ sym (total-kept (λ (z : Context). z.outstanding) is_open not_open c.contexts);
  few = is.few;
  cycles = omega (arith, total-filter (λ (z : Context). z.available) is_open c.contexts, waits-less c.phase (filter is_open c.contexts), is.cycles);
  controllers = is.controllers;
  rising = is.rising;
  fits = is.fits;
  idle = is.idle;
}

pub closes_keep : (c : Canister) (xs : List Context) (phase : Phase) → xs ≡ filter is_open c.contexts → phase ≡ phase_after c.phase xs → IsCanister c → IsCanister (record c { contexts = xs; phase = phase })
closes_keep c xs phase e f is =
    let g : phase ≡ phase_after c.phase (filter is_open c.contexts) = f ∙ ap (phase_after c.phase) e in
    subst (λ p. IsCanister (record c { contexts = xs; phase = p })) (sym g)
    (subst (λ ys. IsCanister (record c { contexts = ys; phase = phase_after c.phase (filter is_open c.contexts) })) (sym e) (closed_keeps c is))
