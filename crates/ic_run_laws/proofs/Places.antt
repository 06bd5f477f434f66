-- A canister takes a message out of the list, and a sound state comes out of what it leaves.
use Rattle.std.proofs.Common.{◌≡◌, ℕ, zero, suc, ◌+◌, ◌<◌, ◌≤◌, Bool, true, false, ◌&&◌, List, [], ◌∷◌, ◌++◌, map, slice_get, Some, refl, sym, ap, ◌∙◌, subst, arith, not-suc-le-zero}
use Rattle.std.specs.List.{AllByRecursion, flat_map, remove}
use Rattle.std.specs.List.Sorted.{IsStrictlySortedBy}
use Rattle.std.specs.Option.{IsSome}
use Rattle.std.specs.Map.{keys_of}
use Rattle.std.specs.Ordering.{nat_cmp}
use Rattle.std.specs.Cmp.Lexicographic.{slice_cmp}
use Rattle.std.proofs.lemmas.Bool.{and_parts, and_from}
use Rattle.ic_behaviour.specs.declared.call.CallId.TheVariants as call_id
use Rattle.ic_run_laws.proofs.Amid.{Amid, GivenAt, Scene, desk, others_balance, total-desk}
use Rattle.ic_run_laws.proofs.Ends.{balances, sound_holds}
use Rattle.ic_run_laws.proofs.Exact.{calls_exact}
use Rattle.ic_run_laws.proofs.Fills.{each-at, total-remove}
use Rattle.ic_run_laws.proofs.Holds.{Holds, Swaps, Within, given_anew}
use Rattle.ic_run_laws.proofs.Spots.{Spot, apart, no_others, older}
use Rattle.ic_run_laws.proofs.Takes.{nothing_awaited, opened_context, taken_call}
use Rattle.ic_behaviour.proofs.Spots.{no_contexts, total-spot}
use Rattle.ic_behaviour.proofs.Weights.{at-is, at-self, each-map, same_id-is, same_id-self, total-append, total-at, total-map}
use Rattle.ic_behaviour.specs.Counted.{bare, with_count}
use Rattle.ic_behaviour.specs.Items.{Given, HasNext, InCall, InContext, InWaiter, Item, awaited, begins, calls_of, is_context, item_of, items, items_at, outstanding}
use Rattle.ic_behaviour.specs.Local.{context_of}
use Rattle.ic_behaviour.specs.State.{CallContext, Canister, State, at, id_of, same_id, waiting}
use Rattle.ic_behaviour.specs.Tallied.{IsEntry, Tallied}
use Rattle.ic_behaviour.specs.Totals.{one, total}
use Rattle.ic_behaviour.specs.declared.call.CallId.{CallId}
use Rattle.ic_behaviour.specs.declared.call.Message.{Message}
use Rattle.ic_behaviour.specs.declared.call.Message.TheVariants.{Answer, Call}
use Rattle.ic_behaviour.specs.declared.call.Origin.{Origin}
use Rattle.ic_behaviour.specs.declared.context.Context.{Context}
use Rattle.ic_behaviour.specs.declared.phase.Waiter.{Waiter}

pub total-same : {A : Type 0} (f g : A → ℕ) → ((x : A) → f x ≡ g x) → (xs : List A) → total f xs ≡ total g xs
total-same f g same [] = refl
total-same f g same (x ∷ xs) = omega (arith, same x, total-same f g same xs)

pub total-zeros : {A : Type 0} (f : A → ℕ) → ((x : A) → f x ≡ 0) → (xs : List A) → total f xs ≡ 0
total-zeros f zeros [] = refl
total-zeros f zeros (x ∷ xs) = omega (arith, zeros x, total-zeros f zeros xs)

pub each-snoc : {A : Type 0} (P : A → Type 0) (xs : List A) (y : A) → AllByRecursion P xs → P y → AllByRecursion P (xs ++ y ∷ [])
each-snoc P [] y all here = (here, tt)
each-snoc P (x ∷ xs) y all here = (all.0, each-snoc P xs y all.1 here)

pub each-mapped : {A B : Type 0} (P : A → Type 0) (Q : B → Type 0) (f : A → B) → ((x : A) → P x → Q (f x)) → (xs : List A) → AllByRecursion P xs → AllByRecursion Q (map f xs)
each-mapped P Q f h [] all = tt
each-mapped P Q f h (x ∷ xs) all = (h x all.0, each-mapped P Q f h xs all.1)

pub each-true : {A : Type 0} (P : A → Type 0) → ((x : A) → P x) → (xs : List A) → AllByRecursion P xs
each-true P h [] = tt
each-true P h (x ∷ xs) = (h x, each-true P h xs)

-- where some weigh, one of them has the fact
pub found_each : {A : Type 0} (w : A → ℕ) (P : A → Type 0) (G : Type 0) → ((x : A) → 0 < w x → P x → G) → (xs : List A) → 0 < total w xs → AllByRecursion P xs → G
found_each w P G h [] some all = absurd (not-suc-le-zero some)
found_each w P G h (x ∷ xs) some all = by (w x) refl (λ more. found_each w P G h xs more all.1) where
  by : (n : ℕ) → w x ≡ n → (0 < total w xs → G) → G
  by zero e later = later (omega (arith, some, e))
  by (suc n) e later = h x (omega (arith, e)) all.0

module _ (s : State) (place : ℕ) (m : Message) (is_m : slice_get s.messages place ≡ Some m) (key : List ℕ) (a : Canister) (p : Spot key s.canisters a) where
  abbrev rest : List (List ℕ × Canister)
  rest = p.before ++ p.after

  abbrev away : List Item
  away = map item_of (remove s.messages place) ++ flat_map items_at rest

  pub total-items : (w : Item → ℕ) → total w (items s) ≡ total w away + (w (item_of m) + (total (λ x. w (InContext key x)) a.contexts + total (λ v. w (InWaiter key v)) (waiting a.phase)))
  total-items w = omega (
    arith,
    total-append w (map item_of s.messages) (flat_map items_at s.canisters),
    total-append w (map item_of (remove s.messages place)) (flat_map items_at rest),
    total-map item_of w s.messages,
    total-map item_of w (remove s.messages place),
    total-remove (λ n. w (item_of n)) s.messages place m is_m,
    ap (λ es. total w (flat_map items_at es)) p.whole,
    total-spot w key a p.before p.after,
  )

  module _ (sound : Tallied s) where
    pub actors : AllByRecursion (IsEntry s.next_canister) rest × IsEntry s.next_canister (key, a)
    actors = each-at (IsEntry s.next_canister) p.before (key, a) p.after (subst (AllByRecursion (IsEntry s.next_canister)) p.whole sound.entries)

    pub few : AllByRecursion (λ (e : List ℕ × Canister). total (calls_of e.0) (items s) ≤ 500) rest × (total (calls_of key) (items s) ≤ 500)
    few = each-at (λ (e : List ℕ × Canister). total (calls_of e.0) (items s) ≤ 500) p.before (key, a) p.after (subst (AllByRecursion (λ (e : List ℕ × Canister). total (calls_of e.0) (items s) ≤ 500)) p.whole sound.few)

    pub are_apart : AllByRecursion (λ (e : List ℕ × Canister). at key e.0 ≡ false) rest
    are_apart = apart key a p.before p.after (subst (λ es. IsStrictlySortedBy (slice_cmp nat_cmp) (keys_of es)) p.whole sound.rises)

    pub none_away : (id : CallId) → total (is_context key id) away ≡ 0
    none_away id = omega (
      arith,
      total-append (is_context key id) (map item_of (remove s.messages place)) (flat_map items_at rest),
      total-map item_of (is_context key id) (remove s.messages place),
      no_contexts key id (remove s.messages place),
      no_others key id rest are_apart,
    )

    pub split_next : (caller : List ℕ) (n : ℕ) → HasNext caller n s.canisters → HasNext caller n rest × (at caller key ≡ true → n < a.next_call)
    split_next caller n g = each-at (λ (e : List ℕ × Canister). at caller e.0 ≡ true → n < e.1.next_call) p.before (key, a) p.after (subst (HasNext caller n) p.whole g)

    abbrev pub scene : CallId → (List ℕ → CallId → Bool) → (CallId → ℕ) → Scene
    scene own off less = record {
      s = s;
      key = key;
      rest = p.before ++ p.after;
      away = map item_of (remove s.messages place) ++ flat_map items_at (p.before ++ p.after);
      own = own;
      off = off;
      less = less;
      code = a.code;
      first = a.next_call;
      named = actors.1.named;
      older = older s.next_canister key actors.1.named;
      apart = are_apart;
      none_away = none_away;
      fresh = λ n g. (split_next key n g.0).1 (at-self key);
    }

    module _ (own : CallId) (off : List ℕ → CallId → Bool) (less : CallId → ℕ) where
      given_at : (id : CallId) → Given s id → GivenAt (scene own off less) a.next_call id
      given_at (call_id.Ingress k) g = g
      given_at (call_id.Canister caller n) g = let parts = split_next caller n g.0 in (parts.1, parts.0, g.1)

      pub start_holds : Holds s key off (λ id. 0) (GivenAt (scene own off less) a.next_call) (items s) s.requests (a.balance + others_balance (scene own off less) + s.burned)
      start_holds =
          let money : balances s + s.burned ≡ a.balance + total (λ (e : List ℕ × Canister). e.1.balance) (p.before ++ p.after) + s.burned =
          omega (arith, ap (λ es. total (λ (e : List ℕ × Canister). e.1.balance) es) p.whole, total-at (λ (e : List ℕ × Canister). e.1.balance) p.before (key, a) p.after) in
          subst (λ n. Holds s key off (λ id. 0) (GivenAt (scene own off less) a.next_call) (items s) s.requests n) money
          (given_anew s key off (λ id. 0) given_at (sound_holds s key off sound))

    -- the contexts' ids, and the outstanding calls
    pub is_own_context : (id : CallId) → total (is_context key id) (items s) ≡ total (λ (x : CallContext). one (same_id id x.id)) a.contexts
    is_own_context id = omega (
      arith,
      total-items (is_context key id),
      none_away id,
      no_message m id,
      total-same (λ (x : CallContext). one (at key key && same_id id x.id)) (λ (x : CallContext). one (same_id id x.id)) (λ x. ap (λ b. one (b && same_id id x.id)) (at-self key)) a.contexts,
      total-zeros (λ (v : Waiter). 0) (λ v. refl) (waiting a.phase),
    ) where
      no_message : (n : Message) (i : CallId) → is_context key i (item_of n) ≡ 0
      no_message (Call from sender callee method arg cycles) i = refl
      no_message (Answer from sender response refund) i = refl

    pub count_exact : total (λ (x : CallContext). outstanding s key x.id) a.contexts ≡ total (calls_of key) (items s)
    count_exact = sym (total-map (λ (x : CallContext). x.id) (λ i. total (awaited key i) (items s)) a.contexts) ∙ calls_exact key (items s) (map (λ (x : CallContext). x.id) a.contexts) names single where
      names : (id : CallId) → 0 < total (awaited key id) (items s) → 0 < total (λ i. one (same_id id i)) (map (λ (x : CallContext). x.id) a.contexts)
      names id some = let stands = sound.names key id some in omega (arith, stands, is_own_context id, total-map (λ (x : CallContext). x.id) (λ i. one (same_id id i)) a.contexts)

      single : (id : CallId) → total (λ i. one (same_id id i)) (map (λ (x : CallContext). x.id) a.contexts) ≤ 1
      single id = omega (arith, sound.begun id, total-items (begins id), total-map (λ (x : CallContext). x.id) (λ i. one (same_id id i)) a.contexts)

    -- the contexts with the counts of s
    abbrev pub stored : List Context
    stored = map (with_count s key) a.contexts

    pub total-stored : (w : Item → ℕ) → total (λ x. w (InContext key (bare x))) stored ≡ total (λ x. w (InContext key x)) a.contexts
    total-stored w = total-map (with_count s key) (λ x. w (InContext key (bare x))) a.contexts

    pub stored_counts : AllByRecursion (λ (x : Context). x.outstanding ≡ total (awaited key x.id) (items s)) stored
    stored_counts = each-mapped (λ (x : CallContext). Unit {0}) (λ (x : Context). x.outstanding ≡ total (awaited key x.id) (items s)) (with_count s key) (λ x is. refl) a.contexts (each-true (λ (x : CallContext). Unit {0}) (λ x. tt) a.contexts)

    pub stored_codes : AllByRecursion (λ (x : Context). x.deleted ≡ false → IsSome a.code) stored
    stored_codes = each-mapped (λ (x : CallContext). x.deleted ≡ false → IsSome a.code) (λ (x : Context). x.deleted ≡ false → IsSome a.code) (with_count s key) (λ x is. is) a.contexts actors.1.has_code

    module _ (own : CallId) (off : List ℕ → CallId → Bool) (less : CallId → ℕ) where
      pub total-start : (w : Item → ℕ) (ms : List Message) → total w (desk (scene own off less) ms stored (waiting a.phase)) + w (item_of m) ≡ total w (items s) + total (λ n. w (item_of n)) ms
      total-start w ms = omega (arith, total-desk (scene own off less) w ms stored (waiting a.phase), total-items w, total-stored w)

turned : (key k : List ℕ) (id own : CallId) → (at k key && same_id id own) ≡ true → (at key k && same_id own id) ≡ true
turned key k id own is =
    let parts = and_parts (at k key) (same_id id own) is in
    let e : k ≡ key = at-is k key parts.0 in
    let f : id ≡ own = same_id-is id own parts.1 in
    and_from (at key k) (same_id own id) (subst (λ c. at key c ≡ true) (sym e) (at-self key)) (subst (λ i. same_id own i ≡ true) (sym f) (same_id-self own))

-- A call becomes a context
module _ (s : State) (place : ℕ) (o : Origin) (sender key method arg : List ℕ) (cycles : ℕ) (is_m : slice_get s.messages place ≡ Some (Call o sender key method arg cycles))
    (a : Canister) (p : Spot key s.canisters a) (sound : Tallied s) where
  abbrev pub call_scene : Scene
  call_scene = scene s place (Call o sender key method arg cycles) is_m key a p sound (id_of o) (λ k id. at key k && same_id (id_of o) id) (λ id. 0)

  pub start_call : IsSome a.code
      → Amid call_scene a.balance a.next_call (total (λ (x : CallContext). outstanding s key x.id) a.contexts) (map (with_count s key) a.contexts ++ context_of o sender cycles ∷ []) (waiting a.phase) [] s.requests s.burned
  start_call coded = record {
    holds = taken_call s key (λ k id. at key k && same_id (id_of o) id) (λ id. 0) o cycles sender (λ k id is. turned key k id (id_of o) is) within swaps
        (start_holds s place (Call o sender key method arg cycles) is_m key a p sound (id_of o) (λ k id. at key k && same_id (id_of o) id) (λ id. 0));
    count_is = omega (arith, count_exact s place (Call o sender key method arg cycles) is_m key a p sound, swaps (calls_of key));
    few = omega (arith, count_exact s place (Call o sender key method arg cycles) is_m key a p sound, (few s place (Call o sender key method arg cycles) is_m key a p sound).1);
    counted = each-snoc (λ (x : Context). x.outstanding ≡ total (awaited key x.id) taken) (map (with_count s key) a.contexts) (context_of o sender cycles)
        (each-map (λ (x : Context). x.outstanding ≡ total (awaited key x.id) (items s)) (λ (x : Context). x.outstanding ≡ total (awaited key x.id) taken) (λ x e. omega (arith, e, swaps (awaited key x.id)))
        (map (with_count s key) a.contexts) (stored_counts s place (Call o sender key method arg cycles) is_m key a p sound))
        (omega (arith, swaps (awaited key (id_of o)), none));
    has_code = each-snoc (λ (x : Context). x.deleted ≡ false → IsSome a.code) (map (with_count s key) a.contexts) (context_of o sender cycles) (stored_codes s place (Call o sender key method arg cycles) is_m key a p sound) (λ is. coded);
    later = omega arith;
    alone_changes = λ id differs. omega (arith, swaps (awaited key id));
  } where
    taken : List Item
    taken = desk call_scene [] (map (with_count s key) a.contexts ++ context_of o sender cycles ∷ []) (waiting a.phase)

    within : Within (InCall o cycles ∷ []) (items s)
    within w = omega (arith, total-items s place (Call o sender key method arg cycles) is_m key a p w)

    swaps : Swaps (InCall o cycles ∷ []) (InContext key (opened_context o sender cycles) ∷ []) (items s) taken
    swaps w = omega (
      arith,
      total-items s place (Call o sender key method arg cycles) is_m key a p w,
      total-desk call_scene w [] (map (with_count s key) a.contexts ++ context_of o sender cycles ∷ []) (waiting a.phase),
      total-append (λ x. w (InContext key (bare x))) (map (with_count s key) a.contexts) (context_of o sender cycles ∷ []),
      total-stored s place (Call o sender key method arg cycles) is_m key a p sound w,
    )

    none : total (awaited key (id_of o)) (items s) ≡ 0
    none = nothing_awaited s key (λ k id. at key k && same_id (id_of o) id) (λ id. 0) o cycles within
        (start_holds s place (Call o sender key method arg cycles) is_m key a p sound (id_of o) (λ k id. at key k && same_id (id_of o) id) (λ id. 0)) key
