-- What is burned for a message.
use Rattle.std.proofs.Common.{◌≡◌, ℕ, ◌+◌, ◌*◌, nat_lt, min, Bool, true, false, cond, Result, Ok, Err, find, sym, ap, arith}
use Rattle.ic_behaviour.specs.declared.call.Origin.TheVariants as origin
use Rattle.ic_behaviour.specs.declared.call.Message.{Message}
use Rattle.ic_behaviour.specs.declared.call.Message.TheVariants.{Call, Answer}
use Rattle.ic_behaviour.specs.declared.env.Env.{Env}
use Rattle.ic_behaviour.specs.declared.env.Admitted.{Admitted}
use Rattle.ic_behaviour.specs.declared.env.Refusal.{Refusal}
use Rattle.ic_behaviour.specs.State.{Code}
use Rattle.ic_behaviour.specs.Counted.{CountedCanister}
use Rattle.ic_behaviour.specs.Texts.{out_of_cycles}
use Rattle.ic_behaviour.specs.Outcomes.{Enters}
use Rattle.ic_behaviour.specs.Executing.{Work, nothing, is_own, called}
use Rattle.ic_behaviour.specs.Closing.{Handled, finished}
use Rattle.ic_behaviour.specs.Local.{admitted, refused, context_of, with_context, begin_call, local_call, with_answer, on_answer, local}
use Rattle.ic_run_laws.proofs.Trapped.{paid}

finished_burned : (price : ℕ) (w : Work) → (finished price w).burned ≡ min ((finished price w).canister.balance + (finished price w).burned) (price * (finished price w).used)
finished_burned price w = ap (λ b. min b (price * w.used)) (sym (paid price w))

refused_burned : (c : CountedCanister) (price : ℕ) → 0 ≡ min (c.balance + 0) (price * 0)
refused_burned c price = omega arith

abbrev pub Burns : ℕ → Handled → Type 0
Burns price h = h.burned ≡ min (h.canister.balance + h.burned) (price * h.used)

pub burns : (enters : Enters) (env : Env) (c : CountedCanister) (m : Message) → Burns env.price (local enters env c m)
unfolding local
burns enters env c (Answer (origin.Ingress k) sender response refund) = finished_burned env.price (nothing c)
burns enters env c (Answer (origin.Canister caller n own callback) sender response refund) =
    let d = with_answer own refund c in
    finished_burned env.price (on_answer enters env d own callback response refund (find (is_own own) d.contexts) d.code)
burns enters env c (Call from sender callee method arg cycles) = by (admitted c method) where
  poor : (b : Bool) (entry : Code × Admitted) → Burns env.price (cond b (refused c from cycles out_of_cycles) (begin_call enters env c (context_of from sender cycles) method arg entry))
  poor true entry = refused_burned c env.price
  poor false entry =
      let x = context_of from sender cycles in
      finished_burned env.price (called enters env (with_context x c) x.id x method arg entry.0 entry.1)

  by : (r : Result (Code × Admitted) Refusal) → Burns env.price (local_call enters env c from sender method arg cycles r)
  by (Err refusal) = refused_burned c env.price
  by (Ok entry) = poor (nat_lt c.balance (env.limit * env.price)) entry
