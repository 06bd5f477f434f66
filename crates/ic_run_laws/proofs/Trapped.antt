-- A message that trapped leaves its canister as before, but for the price, the refund and what closes.
use Rattle.std.proofs.Common.{◌≡◌, ℕ, ◌+◌, ◌-◌, ◌*◌, nat_lt, Bool, true, false, cond, List, [], Option, Some, None, option_map, Result, Ok, Err, refl, sym, ap, ap₂, ◌∙◌, ◌++◌, arith, true≢false, find, filter}
use Rattle.std.specs.Option.{is_some}
use Rattle.wm_store.specs.Lists.{Lists}
use Rattle.wm_semantics.specs.declared.trap.Trap.{Trap}
use Rattle.wm_semantics.specs.declared.target.Target.TheVariants.{Function, Element}
use Rattle.ic_behaviour.specs.declared.call.CallId.{CallId}
use Rattle.ic_behaviour.specs.declared.call.Callback.{Callback}
use Rattle.ic_behaviour.specs.declared.call.Origin.{Origin}
use Rattle.ic_behaviour.specs.declared.call.Origin.TheVariants as origin
use Rattle.ic_behaviour.specs.declared.call.Response.{Response}
use Rattle.ic_behaviour.specs.declared.call.Message.{Message}
use Rattle.ic_behaviour.specs.declared.call.Message.TheVariants.{Call, Answer}
use Rattle.ic_behaviour.specs.declared.call.Answered.{Answered}
use Rattle.ic_behaviour.specs.declared.context.Context.{Context}
use Rattle.ic_behaviour.specs.declared.env.Env.{Env}
use Rattle.ic_behaviour.specs.declared.env.Admitted.{Admitted}
use Rattle.ic_behaviour.specs.declared.env.Admitted.TheVariants as method
use Rattle.ic_behaviour.specs.declared.env.Refusal.{Refusal}
use Rattle.ic_behaviour.specs.declared.execution.EntryKind.TheVariants as kind
use Rattle.ic_behaviour.specs.State.{id_of, Code}
use Rattle.ic_behaviour.specs.Counted.{CountedCanister}
use Rattle.ic_behaviour.specs.Texts.{out_of_cycles}
use Rattle.ic_behaviour.specs.Outcomes.{Outcome, Returns, Traps, Enters}
use Rattle.ic_behaviour.specs.Executing.{Work, nothing, is_own, trapped_with, updated, queried, view, call_view, answer_view, called, cleaned, called_back, kind_of, target_of, answered_with}
use Rattle.ic_behaviour.specs.Closing.{charge, closing, is_open, finished}
use Rattle.ic_behaviour.specs.Local.{admitted, context_of, with_context, with_answer, refused, begin_call, local_call, on_answer, local}
use Rattle.ic_run_laws.specs.TrapKeeps.{taken, own_of, with_own, store_left, cleaned_store, store_after_trap, TrapKeeps}

-- work that trapped changed the store at most, which is this one
record Still (c : CountedCanister) (own : CallId) (left : Lists) (w : Work) : Type 0 where
  calls : w.calls ≡ []
  answers : w.answers ≡ []
  canister : w.canister ≡ record c { store = left }
  trapped : w.trapped ≡ with_own own (option_map (λ (t : CallId × Trap). t.1) w.trapped)

abbrev WhereTrapped : CountedCanister → CallId → Lists → Work → Type 0
WhereTrapped c own left w = is_some (option_map (λ (t : CallId × Trap). t.1) w.trapped) ≡ true → Still c own left w

not_trapped : {G : Type 0} → false ≡ true → G
not_trapped is = absurd (true≢false (sym is))

still : (c : CountedCanister) (own : CallId) (left : Lists) (cause : Trap) (used : ℕ) → WhereTrapped c own left (trapped_with c own left cause used)
still c own left cause used is = record { calls = refl; answers = refl; canister = refl; trapped = refl }

updated_still : (c : CountedCanister) (own : CallId) (x : Context) (o : Outcome) → WhereTrapped c own c.store (updated c own x o)
updated_still c own x (Returns store e used) is = not_trapped is
updated_still c own x (Traps cause used) is = still c own c.store cause used is

queried_still : (c : CountedCanister) (own : CallId) (x : Context) (o : Outcome) → WhereTrapped c own c.store (queried c own x o)
queried_still c own x (Returns store e used) is = not_trapped is
queried_still c own x (Traps cause used) is = still c own c.store cause used is

cleaned_still : (c : CountedCanister) (own : CallId) (cause : Trap) (used : ℕ) (o : Outcome) → WhereTrapped c own (store_left o c.store) (cleaned c own cause used o)
cleaned_still c own cause used (Returns store e more) is = still c own store cause (used + more) is
cleaned_still c own cause used (Traps other more) is = still c own c.store cause (used + more) is

module _ (enters : Enters) (env : Env) (c : CountedCanister) (own : CallId) (x : Context) (code : Code) where
  called_still : (name arg : List ℕ) (entry : Admitted) → WhereTrapped c own c.store (called enters env c own x name arg code entry)
  called_still name arg (method.Update f) is = updated_still c own x (enters code c.store (Function f) kind.Update (call_view (view env c x) name arg) env.limit) is
  called_still name arg (method.Query f) is = queried_still c own x (enters code c.store (Function f) kind.Query (call_view (view env c x) name arg) env.limit) is

  back_still : (cleanup : Option (ℕ × ℕ)) (o : Outcome) → WhereTrapped c own (cleaned_store enters env c cleanup (Some x) (Some code)) (called_back enters env c own x code cleanup o)
  back_still cleanup (Returns store e used) is = not_trapped is
  back_still None (Traps cause used) is = still c own c.store cause used is
  back_still (Some target) (Traps cause used) is = cleaned_still c own cause used (enters code c.store (Element target.0 target.1) kind.Cleanup (view env c x) env.limit) is

on_answer_still : (enters : Enters) (env : Env) (c : CountedCanister) (own : CallId) (callback : Callback) (response : Response) (refund : ℕ) (o : Option Context) (code : Option Code)
    → WhereTrapped c own (cleaned_store enters env c callback.cleanup o code) (on_answer enters env c own callback response refund o code)
on_answer_still enters env c own callback response refund None code is = not_trapped is
on_answer_still enters env c own callback response refund (Some x) None is = not_trapped is
on_answer_still enters env c own callback response refund (Some x) (Some code) is = live x.deleted is where
  live : (b : Bool)
      → WhereTrapped c own (cleaned_store enters env c callback.cleanup (Some x) (Some code)) (cond b (nothing c) (answered_with enters env c own callback response x (answer_view (view env c x) response refund) code))
  live true is = not_trapped is
  live false is =
      back_still enters env c own x code callback.cleanup
      (enters code c.store (target_of callback response) (kind_of response) (answer_view (view env c x) response refund) env.limit) is

-- to take a message changes none of these
record Same (c : CountedCanister) (m : Message) : Type 0 where
  id : (taken c m).id ≡ c.id
  controllers : (taken c m).controllers ≡ c.controllers
  code : (taken c m).code ≡ c.code
  certified : (taken c m).certified ≡ c.certified
  next_call : (taken c m).next_call ≡ c.next_call

same : (c : CountedCanister) (m : Message) → Same c m
same c (Call from sender callee method arg cycles) = record { id = refl; controllers = refl; code = refl; certified = refl; next_call = refl }
same c (Answer (origin.Ingress k) sender response refund) = record { id = refl; controllers = refl; code = refl; certified = refl; next_call = refl }
same c (Answer (origin.Canister caller n own callback) sender response refund) = record { id = refl; controllers = refl; code = refl; certified = refl; next_call = refl }

pub paid : (price : ℕ) (w : Work) → w.canister.balance - charge price w + charge price w ≡ w.canister.balance
paid price w = omega arith

module _ (enters : Enters) (env : Env) (c : CountedCanister) where
  kept : (m : Message) (w : Work) → Still (taken c m) (own_of m) (store_after_trap enters env c m) w → TrapKeeps enters env c m (finished env.price w)
  kept m w s =
      let is = same c m in
      record {
        calls = s.calls;
        answers = ap₂ (λ (l : List Answered) (b : CountedCanister). l ++ closing w.trapped b) s.answers s.canister ∙ ap (λ (own : Option (CallId × Trap)). closing own (taken c m)) s.trapped;
        id = ap (λ (b : CountedCanister). b.id) s.canister ∙ is.id;
        controllers = ap (λ (b : CountedCanister). b.controllers) s.canister ∙ is.controllers;
        code = ap (λ (b : CountedCanister). b.code) s.canister ∙ is.code;
        certified = ap (λ (b : CountedCanister). b.certified) s.canister ∙ is.certified;
        next_call = ap (λ (b : CountedCanister). b.next_call) s.canister ∙ is.next_call;
        balance = paid env.price w ∙ ap (λ (b : CountedCanister). b.balance) s.canister;
        contexts = ap (λ (b : CountedCanister). filter is_open b.contexts) s.canister;
        outstanding = ap (λ (b : CountedCanister). b.outstanding) s.canister;
        store = ap (λ (b : CountedCanister). b.store) s.canister;
      }

  call_keeps : (from : Origin) (sender callee name arg : List ℕ) (cycles : ℕ) (r : Result (Code × Admitted) Refusal) → is_some (local_call enters env c from sender name arg cycles r).trapped ≡ true
      → TrapKeeps enters env c (Call from sender callee name arg cycles) (local_call enters env c from sender name arg cycles r)
  call_keeps from sender callee name arg cycles (Err refusal) is = not_trapped is
  call_keeps from sender callee name arg cycles (Ok entry) is = paying (nat_lt c.balance (env.limit * env.price)) is where
    paying : (poor : Bool) → is_some (cond poor (refused c from cycles out_of_cycles) (begin_call enters env c (context_of from sender cycles) name arg entry)).trapped ≡ true
        → TrapKeeps enters env c (Call from sender callee name arg cycles) (cond poor (refused c from cycles out_of_cycles) (begin_call enters env c (context_of from sender cycles) name arg entry))
    paying true is = not_trapped is
    paying false is =
        kept (Call from sender callee name arg cycles) (called enters env (with_context (context_of from sender cycles) c) (id_of from) (context_of from sender cycles) name arg entry.0 entry.1)
        (called_still enters env (with_context (context_of from sender cycles) c) (id_of from) (context_of from sender cycles) entry.0 name arg entry.1 is)

  pub trap_keeps : (m : Message) → is_some (local enters env c m).trapped ≡ true → TrapKeeps enters env c m (local enters env c m)
  unfolding local
  trap_keeps (Call from sender callee name arg cycles) is = call_keeps from sender callee name arg cycles (admitted c name) is
  trap_keeps (Answer (origin.Ingress k) sender response refund) is = not_trapped is
  trap_keeps (Answer (origin.Canister caller n own callback) sender response refund) is =
      let d : CountedCanister = with_answer own refund c in
      kept (Answer (origin.Canister caller n own callback) sender response refund) (on_answer enters env d own callback response refund (find (is_own own) d.contexts) d.code)
      (on_answer_still enters env d own callback response refund (find (is_own own) d.contexts) d.code is)
