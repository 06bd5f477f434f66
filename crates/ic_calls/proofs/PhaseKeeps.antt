-- A canister keeps what it keeps by itself.
use Rattle.std.proofs.Common.{◌≡◌, ℕ, ◌+◌, ◌-◌, ◌≤◌, ◌^◌, false, List, [], ◌∷◌, map, None, refl, sym, ap, subst, arith, true≢false}
use Rattle.std.specs.List.{AllByRecursion}
use Rattle.std.specs.Option.{IsSome}
use Rattle.std.specs.Prelude.{Result, Ok, Err, OnOk, OnErr}
use Rattle.ic_behaviour.specs.declared.call.CallId.{CallId}
use Rattle.ic_behaviour.specs.declared.context.Context.{Context}
use Rattle.ic_behaviour.specs.declared.phase.Waiter.{Waiter}
use Rattle.ic_behaviour.specs.declared.phase.Phase.{Phase}
use Rattle.ic_behaviour.specs.Totals.{total, one}
use Rattle.ic_behaviour.specs.State.{same_id, waiting}
use Rattle.ic_behaviour.proofs.Weights.{total-append}
use Rattle.ic_state.specs.declared.canister.Canister.{Canister}
use Rattle.ic_state.specs.IsCanister.{IsContext, IsCanister, cycles_of}
use Rattle.ic_calls.specs.Changes.{with_waiter, deleted}

-- another phase and another balance, with no more cycles than there is room for
pub renewed_keeps : (c : Canister) (phase : Phase) (balance : ℕ) → IsCanister c → cycles_of (record c { phase = phase; balance = balance }) ≤ 2 ^ 127 - 1
    → IsCanister (record c { phase = phase; balance = balance })
renewed_keeps c phase balance is room = record {
  contexts = is.contexts;
  once = is.once;
  has_code = is.has_code;
  counts = is.counts;
  few = is.few;
  cycles = room;
  controllers = is.controllers;
  rising = is.rising;
  fits = is.fits;
  idle = is.idle;
}

pub waits_keep : (c : Canister) (w : Waiter) → IsCanister c → cycles_of c + w.cycles ≤ 2 ^ 127 - 1 → IsCanister (record c { phase = with_waiter w c.phase })
waits_keep c w is room = renewed_keeps c (with_waiter w c.phase) c.balance is (omega (arith, room, total-append (λ (v : Waiter). v.cycles) (waiting c.phase) (w ∷ [])))

-- what deletion leaves of the contexts
all_deleted : (xs : List Context) → AllByRecursion IsContext xs → AllByRecursion IsContext (map deleted xs)
all_deleted [] all = tt
all_deleted (x ∷ xs) all = (record { id = all.0.id; answered = λ is. refl; deleted = λ is. refl }, all_deleted xs all.1)

none_live : (code : Type 0) (xs : List Context) → AllByRecursion (λ (x : Context). x.deleted ≡ false → code) (map deleted xs)
none_live code [] = tt
none_live code (x ∷ xs) = ((λ is. absurd (true≢false is)), none_live code xs)

same_ids : (id : CallId) (xs : List Context) → total (λ (x : Context). one (same_id id x.id)) (map deleted xs) ≡ total (λ (x : Context). one (same_id id x.id)) xs
same_ids id [] = refl
same_ids id (x ∷ xs) = ap (λ n. one (same_id id x.id) + n) (same_ids id xs)

same_counts : (xs : List Context) → total (λ (x : Context). x.outstanding) (map deleted xs) ≡ total (λ (x : Context). x.outstanding) xs
same_counts [] = refl
same_counts (x ∷ xs) = ap (λ n. x.outstanding + n) (same_counts xs)

no_cycles : (xs : List Context) → total (λ (x : Context). x.available) (map deleted xs) ≡ 0
no_cycles [] = refl
no_cycles (x ∷ xs) = omega (arith, no_cycles xs)

pub emptied_keeps : (c d : Canister) → IsCanister c → d.contexts ≡ map deleted c.contexts → d.code ≡ None → d.phase ≡ c.phase → d.balance ≡ c.balance → d.outstanding ≡ c.outstanding → d.controllers ≡ c.controllers
    → d.store.lists ≡ record { memory = []; maximum = None; globals = []; table = []; stable = [] } → d.store.begun ≡ None → IsCanister d
emptied_keeps c d is xs code phase balance outstanding controllers lists begun = record {
  contexts = subst (AllByRecursion IsContext) (sym xs) (all_deleted c.contexts is.contexts);
  once = λ id. omega (arith, is.once id, same_ids id c.contexts, ap (total (λ (x : Context). one (same_id id x.id))) xs);
  has_code = subst (AllByRecursion (λ (x : Context). x.deleted ≡ false → IsSome d.code)) (sym xs) (none_live (IsSome d.code) c.contexts);
  counts = omega (arith, is.counts, outstanding, same_counts c.contexts, ap (total (λ (x : Context). x.outstanding)) xs);
  few = omega (arith, is.few, outstanding);
  cycles = omega (arith, is.cycles, balance, no_cycles c.contexts, ap (total (λ (x : Context). x.available)) xs, ap (λ p. total (λ (w : Waiter). w.cycles) (waiting p)) phase);
  controllers = rw controllers is.controllers;
  rising = rw controllers is.rising;
  fits = rw code lists;
  idle = begun;
}

-- the phase with one more who waits, or as it was where memory ran out
pub waited_keeps : {E : Type 0} (c : Canister) (phase : Phase) (w : Waiter) (r : Result (Unit {0}) E) → IsCanister c → cycles_of c + w.cycles ≤ 2 ^ 127 - 1
    → OnOk r (phase ≡ with_waiter w c.phase) → OnErr r (phase ≡ c.phase) → IsCanister (record c { phase = phase })
waited_keeps c phase w (Ok u) is room waits same = subst (λ p. IsCanister (record c { phase = p })) (sym waits) (waits_keep c w is room)
waited_keeps c phase w (Err e) is room waits same = subst (λ p. IsCanister (record c { phase = p })) (sym same) is
