-- A canister of a sound state may handle a message to it.
use Rattle.std.proofs.Common.{◌≡◌, ℕ, ◌+◌, ◌-◌, ◌<◌, ◌≤◌, ◌^◌, Bool, true, false, ◌&&◌, List, [], ◌∷◌, map, find, Some, None, refl, ap, subst, arith, not-suc-le-zero}
use Rattle.std.specs.Prelude.{slice_get}
use Rattle.std.specs.Option.{IsSomeAnd}
use Rattle.std.specs.List.{AllByRecursion}
use Rattle.std.specs.Map.{lookup}
use Rattle.ic_behaviour.specs.declared.call.CallId.{CallId}
use Rattle.ic_behaviour.specs.declared.call.Origin.TheVariants as origin
use Rattle.ic_behaviour.specs.declared.call.Message.{Message}
use Rattle.ic_behaviour.specs.declared.call.Message.TheVariants.{Call, Answer}
use Rattle.ic_behaviour.specs.declared.context.Context.{Context}
use Rattle.ic_behaviour.specs.declared.phase.Waiter.{Waiter}
use Rattle.ic_behaviour.specs.Totals.{total, one}
use Rattle.ic_behaviour.specs.State.{at, callee_of, same_id, id_of, waiting, CallContext, Canister, State}
use Rattle.ic_behaviour.specs.Items.{items, item_of, cycles_in, awaited, begins}
use Rattle.ic_behaviour.specs.Counted.{CountedCanister, with_count, counted, dropped}
use Rattle.ic_behaviour.specs.Executing.{is_own}
use Rattle.ic_behaviour.specs.Sound.{Sound}
use Rattle.ic_behaviour.specs.Tallied.{Tallied}
use Rattle.ic_behaviour.proofs.Ties.{tallied}
use Rattle.ic_behaviour.proofs.Weights.{at-self, same_id-self, same_id-is, total-at, total-map}
use Rattle.ic_run_laws.proofs.Spots.{Spot, spot}
use Rattle.ic_run_laws.proofs.Places.{total-items, each-mapped, each-true}
use Rattle.ic_run_laws.proofs.Starts.{own_stands}
use Rattle.ic_run_laws.proofs.Delivers.{no_ingress_answer}
use Rattle.ic_state.specs.declared.canister.Canister.{Canister as StoredCanister}
use Rattle.ic_state.specs.Seen.{seen}
use Rattle.ic_state.specs.IsCanister.{IsCanister}
use Rattle.ic_calls.specs.Received.{IsExpected}
use Rattle.ic_deliver.specs.Giving.{CanHandle}

-- none passes where they weigh nothing
none_found : (test : Context → Bool) (xs : List Context) → total (λ x. one (test x)) xs ≡ 0 → find test xs ≡ None
none_found test [] none = refl
none_found test (x ∷ xs) none = by (test x) refl (none_found test xs (omega (arith, none))) where
  by : (b : Bool) → test x ≡ b → find test xs ≡ None → find test (x ∷ xs) ≡ None
  by true is later = let no : 0 < 0 = omega (arith, none, ap one is) in absurd (not-suc-le-zero no)
  by false is later = rw is later

-- one passes where they weigh something
some_found : (test : Context → Bool) (P : Context → Type 0) (xs : List Context) → 0 < total (λ x. one (test x)) xs → AllByRecursion (λ x. test x ≡ true → P x) xs → IsSomeAnd (find test xs) P
some_found test P [] some all = absurd (not-suc-le-zero some)
some_found test P (x ∷ xs) some all = by (test x) refl (λ later. some_found test P xs later all.1) where
  by : (b : Bool) → test x ≡ b → (0 < total (λ y. one (test y)) xs → IsSomeAnd (find test xs) P) → IsSomeAnd (find test (x ∷ xs)) P
  by true is later = rw is (all.0 is)
  by false is later = rw is (later (omega (arith, some, ap one is)))

-- what a canister has
abbrev cycles_seen : CountedCanister → ℕ
cycles_seen c = c.balance + total (λ (x : Context). x.available) c.contexts + total (λ (w : Waiter). w.cycles) (waiting c.phase)

module _ (s : State) (sound : Tallied s) (place : ℕ) where
  expected_of : (m : Message) → slice_get s.messages place ≡ Some m → (a : Canister) → Spot (callee_of m) s.canisters a → IsExpected (counted s (callee_of m) a) m
  expected_of (Call from sender key method arg cycles) is_m a p =
      none_found (is_own (id_of from)) (map (with_count s key) a.contexts) (omega (
        arith,
        sound.begun (id_of from),
        total-items s place (Call from sender key method arg cycles) is_m key a p (begins (id_of from)),
        ap one (same_id-self (id_of from)),
        total-map (with_count s key) (λ (x : Context). one (is_own (id_of from) x)) a.contexts,
      ))
  expected_of (Answer (origin.Ingress k) sender response refund) is_m a p = no_ingress_answer s place sound k sender response refund is_m
  expected_of (Answer (origin.Canister key n own callback) sender response refund) is_m a p =
      let calls : 0 < total (awaited key own) (items s) = omega (
        arith,
        total-items s place (Answer (origin.Canister key n own callback) sender response refund) is_m key a p (awaited key own),
        ap (λ b. one (b && same_id own own)) (at-self key),
        ap one (same_id-self own),
      ) in
      some_found (is_own own) (λ x. 0 < x.outstanding) (map (with_count s key) a.contexts) (own_stands s place key n own callback sender response refund is_m a p sound)
      (each-mapped (λ (x : CallContext). Unit {0}) (λ (x : Context). is_own own x ≡ true → 0 < x.outstanding) (with_count s key)
      (λ x u is. subst (λ (id : CallId). 0 < total (awaited key id) (items s)) (same_id-is own x.id is) calls) a.contexts (each-true (λ (x : CallContext). Unit {0}) (λ x. tt) a.contexts))

  fitting : (m : Message) → slice_get s.messages place ≡ Some m → (a : Canister) → Spot (callee_of m) s.canisters a → cycles_seen (counted s (callee_of m) a) + cycles_in (item_of m) ≤ 2 ^ 127 - 1
  fitting m is_m a p = omega (
    arith,
    sound.conserved,
    sound.created,
    total-items s place m is_m (callee_of m) a p cycles_in,
    ap (total (λ (e : List ℕ × Canister). e.1.balance)) p.whole,
    total-at (λ (e : List ℕ × Canister). e.1.balance) p.before (callee_of m, a) p.after,
    total-map (with_count s (callee_of m)) (λ (x : Context). x.available) a.contexts,
  )

  -- with the numbers that the state has of it
  pub can_handle : (m : Message) → slice_get s.messages place ≡ Some m → (c : StoredCanister) → lookup (at (callee_of m)) s.canisters ≡ Some (dropped (seen c))
      → counted s (callee_of m) (dropped (seen c)) ≡ seen c → IsCanister c → CanHandle c m
  can_handle m is_m c there counts keeps =
      let p = spot (callee_of m) s.canisters (dropped (seen c)) there in
      record {
        keeps = keeps;
        expected = subst (λ (x : CountedCanister). IsExpected x m) counts (expected_of m is_m (dropped (seen c)) p);
        cycles = subst (λ (x : CountedCanister). cycles_seen x + cycles_in (item_of m) ≤ 2 ^ 127 - 1) counts (fitting m is_m (dropped (seen c)) p);
      }

-- burned are at most all cycles that were created
pub burned_fits : (s : State) → Sound s → s.burned ≤ 2 ^ 127 - 1
burned_fits s sound = omega (arith, (tallied s sound).conserved, (tallied s sound).created)
