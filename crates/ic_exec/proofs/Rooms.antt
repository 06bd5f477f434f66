-- Code is entered with what there is room for, and its effects have room.
use Rattle.std.proofs.Common.{◌≡◌, ℕ, ◌+◌, ◌<◌, ◌≤◌, ◌^◌, false, not, List, Some, Result, Ok, IfOk, slice_get, refl, sym, subst, arith}
use Rattle.std.specs.List.{position}
use Rattle.wm_store.specs.Held.{Held}
use Rattle.wm_semantics.specs.declared.trap.Trap.{Trap}
use Rattle.ic_behaviour.specs.declared.call.Response.{Response}
use Rattle.ic_behaviour.specs.declared.call.Response.TheVariants.{Reply, Reject}
use Rattle.ic_behaviour.specs.declared.env.Env.{Env}
use Rattle.ic_behaviour.specs.declared.context.Context.{Context}
use Rattle.ic_behaviour.specs.declared.execution.EntryKind.{EntryKind}
use Rattle.ic_behaviour.specs.declared.execution.View.{View}
use Rattle.ic_behaviour.specs.declared.execution.Effects.{Effects}
use Rattle.ic_behaviour.specs.Executing.{is_own, view, call_view, answer_view, answer_alone}
use Rattle.ic_state.specs.declared.canister.Canister.{Canister}
use Rattle.ic_state.specs.Seen.{seen}
use Rattle.ic_state.specs.IsCanister.{IsContext, IsCanister}
use Rattle.ic_calls.proofs.Keeps.{each-here}
use Rattle.ic_api.specs.Executed.{Executed}
use Rattle.ic_exec.specs.Executed.{HasRoomFor}
use Rattle.ic_exec.proofs.Applies.{context_there, part_of}
use Rattle.std.specs.List.{AllByRecursion}

-- what code sees in a context of the canister
pub record Sees (c : Canister) (x : Context) (v : View) : Type 0 where
  pub balance : v.balance ≡ c.balance
  pub available : v.available ≡ x.available
  pub outstanding : v.outstanding ≡ c.outstanding
  pub next_call : v.next_call ≡ c.next_call
  pub responded : v.responded ≡ not x.must_respond

module _ (c : Canister) (x : Context) where
  pub sees_view : (env : Env) (v : View) → v ≡ view env (seen c) x → Sees c x v
  sees_view env v e = subst (Sees c x) (sym e) (record { balance = refl; available = refl; outstanding = refl; next_call = refl; responded = refl })

  pub sees_call : (v u : View) (method arg : List ℕ) → Sees c x v → u ≡ call_view v method arg → Sees c x u
  sees_call v u method arg sees e =
      subst (Sees c x) (sym e) (record { balance = sees.balance; available = sees.available; outstanding = sees.outstanding; next_call = sees.next_call; responded = sees.responded })

  pub sees_answer : (v u : View) (response : Response) (refund : ℕ) → Sees c x v → u ≡ answer_view v response refund → Sees c x u
  sees_answer v u (Reply arg) refund sees e =
      subst (Sees c x) (sym e) (record { balance = sees.balance; available = sees.available; outstanding = sees.outstanding; next_call = sees.next_call; responded = sees.responded })
  sees_answer v u (Reject code message) refund sees e =
      subst (Sees c x) (sym e) (record { balance = sees.balance; available = sees.available; outstanding = sees.outstanding; next_call = sees.next_call; responded = sees.responded })

module _ (c : Canister) (place : ℕ) (x : Context) (v : View) (is : IsCanister c) (found : position (is_own x.id) c.contexts ≡ Some place) (got : slice_get c.contexts place ≡ Some x) where
  pub cycles_seen : Sees c x v → v.balance + v.available < 2 ^ 127
  cycles_seen sees = omega (arith, sees.balance, sees.available, is.cycles, part_of c place x (λ z. z.available) (context_there c place x found got))

  pub calls_seen : Sees c x v → v.outstanding ≤ 500
  calls_seen sees = omega (arith, sees.outstanding, is.few)

  answered_there : x.must_respond ≡ false → x.available ≡ 0
  answered_there e =
      let s = context_there c place x found got in
      (each-here IsContext s.front x s.back (subst (AllByRecursion IsContext) s.whole is.contexts)).answered e

  room_for : (s : Held) (kind : EntryKind) (e : Effects) → Sees c x v → c.next_call < 2 ^ 64 → Executed kind v e → HasRoomFor (seen (record c { store = s })) x e
  room_for s kind e sees small lawful = record {
    few = omega (arith, sees.outstanding, lawful.few (calls_seen sees));
    numbers = omega (arith, sees.next_call, lawful.numbers (omega (arith, sees.next_call, small)));
    cycles = omega (arith, lawful.cycles, sees.balance, sees.available);
    answered = λ r. omega (arith, lawful.gift, sees.available, answered_there r);
  }

  -- there is room for the effects, where the result of the run is known
  pub room_of : (s : Held) (kind : EntryKind) (ended : Result Effects Trap) (e : Effects) → Sees c x v → c.next_call < 2 ^ 64 → IfOk ended (Executed kind v) → ended ≡ Ok e → HasRoomFor (seen (record c { store = s })) x e
  room_of s kind ended e sees small lawful is = room_for s kind e sees small (subst (λ r. IfOk r (Executed kind v)) is lawful)

  pub room_alone : (s : Held) (e alone : Effects) → c.next_call < 2 ^ 64 → alone ≡ answer_alone (seen (record c { store = s })) x e → HasRoomFor (seen (record c { store = s })) x alone
  room_alone s e alone small now = subst (HasRoomFor (seen (record c { store = s })) x) (sym now) (record {
    few = omega (arith, is.few);
    numbers = omega (arith, small);
    cycles = omega arith;
    answered = answered_there;
  })
