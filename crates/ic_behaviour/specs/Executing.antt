-- Code is entered for a message, and what it did is applied to the canister (IC Interface Specification, "Message execution" and "Callback invocation").
use Rattle.std.specs.Prelude.{ℕ, ◌+◌, Bool, false, not, cond, List, [], ◌∷◌, Option, Some, None, is_some, length}
use Rattle.wm_store.specs.Lists.{Lists}
use Rattle.wm_semantics.specs.declared.trap.Trap.{Trap}
use Rattle.wm_semantics.specs.declared.target.Target.{Target}
use Rattle.wm_semantics.specs.declared.target.Target.TheVariants.{Function, Element}
use Rattle.ic_behaviour.specs.declared.call.CallId.{CallId}
use Rattle.ic_behaviour.specs.declared.call.Callback.{Callback}
use Rattle.ic_behaviour.specs.declared.call.Origin.{Origin}
use Rattle.ic_behaviour.specs.declared.call.Origin.TheVariants as origin
use Rattle.ic_behaviour.specs.declared.call.Response.{Response}
use Rattle.ic_behaviour.specs.declared.call.Response.TheVariants as response
use Rattle.ic_behaviour.specs.declared.call.Message.{Message}
use Rattle.ic_behaviour.specs.declared.call.Message.TheVariants.{Call}
use Rattle.ic_behaviour.specs.declared.call.Answered.{Answered}
use Rattle.ic_behaviour.specs.declared.context.Context.{Context}
use Rattle.ic_behaviour.specs.declared.phase.Phase.{Phase}
use Rattle.ic_behaviour.specs.declared.phase.Phase.TheVariants.{Running, Stopping, Stopped}
use Rattle.ic_behaviour.specs.declared.env.Env.{Env}
use Rattle.ic_behaviour.specs.declared.env.Admitted.{Admitted}
use Rattle.ic_behaviour.specs.declared.env.Admitted.TheVariants as method
use Rattle.ic_behaviour.specs.declared.execution.EntryKind.{EntryKind}
use Rattle.ic_behaviour.specs.declared.execution.EntryKind.TheVariants as kind
use Rattle.ic_behaviour.specs.declared.execution.View.{View}
use Rattle.ic_behaviour.specs.declared.execution.OutCall.{OutCall}
use Rattle.ic_behaviour.specs.declared.execution.Effects.{Effects}
use Rattle.ic_behaviour.specs.State.{same_id, Code}
use Rattle.ic_behaviour.specs.Counted.{CountedCanister}
use Rattle.ic_behaviour.specs.Outcomes.{Outcome, Returns, Traps, Enters}

-- the canister, the calls and the answers that go out, what was used, and the message's own context with the trap of its
-- entry or callback, or none
pub record Work : Type 0 where
  pub canister : CountedCanister
  pub calls : List Message
  pub answers : List Answered
  pub used : ℕ
  pub trapped : Option (CallId × Trap)

abbrev pub nothing : CountedCanister → Work
nothing c = record { canister = c; calls = []; answers = []; used = 0; trapped = None }

-- ---- what code sees

abbrev pub phase_number : Phase → ℕ
phase_number Running = 1
phase_number (Stopping waiters) = 2
phase_number Stopped = 3

abbrev pub view : Env → CountedCanister → Context → View
view env c x = record {
  time = env.time;
  id = c.id;
  balance = c.balance;
  phase_number = phase_number c.phase;
  controllers = c.controllers;
  caller = x.caller;
  arg = [];
  method = [];
  reject_code = 0;
  reject_message = [];
  refund = 0;
  available = x.available;
  responded = not x.must_respond;
  outstanding = c.outstanding;
  next_call = c.next_call;
  certified = c.certified;
}

abbrev pub call_view : View → (method arg : List ℕ) → View
call_view v method arg = record v { method = method; arg = arg }

abbrev pub answer_view : View → Response → (refund : ℕ) → View
answer_view v (response.Reply arg) refund = record v { arg = arg; refund = refund }
answer_view v (response.Reject code message) refund = record v { reject_code = code; reject_message = message; refund = refund }

-- ---- what it did

-- the first element that passes is changed
abbrev pub change : {A : Type 0} → (A → Bool) → (A → A) → List A → List A
change test f [] = []
change test f (x ∷ xs) = cond (test x) (f x ∷ xs) (x ∷ change test f xs)

abbrev pub is_own : CallId → Context → Bool
is_own own x = same_id own x.id

-- an answer has sent back what was available
abbrev pub served : Effects → Context → Context
served e x = record x {
  must_respond = cond (is_some e.answer) false x.must_respond;
  available = cond (is_some e.answer) 0 e.available;
  outstanding = x.outstanding + length e.calls;
}

-- calls take the numbers from `next_call` on, in the order in which they were performed
abbrev pub numbered : List ℕ → CallId → ℕ → List OutCall → List Message
numbered key own n [] = []
numbered key own n (c ∷ cs) = Call (origin.Canister key n own c.callback) key c.callee c.method c.arg c.cycles ∷ numbered key own (n + 1) cs

abbrev pub given_answer : Origin → Option (Response × ℕ) → List Answered
given_answer to None = []
given_answer to (Some answer) = (record { origin = to; response = answer.0; refund = answer.1 }) ∷ []

abbrev pub applied : CallId → Lists → Effects → CountedCanister → CountedCanister
applied own store e c = record c {
  store = store;
  certified = e.certified;
  balance = e.balance;
  contexts = change (is_own own) (served e) c.contexts;
  next_call = c.next_call + length e.calls;
  outstanding = c.outstanding + length e.calls;
}

abbrev pub returned : CountedCanister → CallId → Context → Lists → Effects → ℕ → Work
returned c own x store e used = record {
  canister = applied own store e c;
  calls = numbered c.id own c.next_call e.calls;
  answers = given_answer x.origin e.answer;
  used = used;
  trapped = None;
}

-- what traps leaves all as before, but for the store that a cleanup leaves
abbrev pub trapped_with : CountedCanister → CallId → Lists → Trap → ℕ → Work
trapped_with c own store cause used = record { canister = record c { store = store }; calls = []; answers = []; used = used; trapped = Some (own, cause) }

-- ---- a call

abbrev pub updated : CountedCanister → CallId → Context → Outcome → Work
updated c own x (Returns store e used) = returned c own x store e used
updated c own x (Traps cause used) = trapped_with c own c.store cause used

-- of a query method its answer alone is kept
abbrev pub answer_alone : CountedCanister → Context → Effects → Effects
answer_alone c x e = record e { balance = c.balance; available = x.available; calls = []; certified = c.certified }

abbrev pub queried : CountedCanister → CallId → Context → Outcome → Work
queried c own x (Returns store e used) = returned c own x c.store (answer_alone c x e) used
queried c own x (Traps cause used) = trapped_with c own c.store cause used

abbrev pub called : Enters → Env → CountedCanister → CallId → Context → (name arg : List ℕ) → Code → Admitted → Work
called enters env c own x name arg code (method.Update f) =
    updated c own x (enters code c.store (Function f) kind.Update (call_view (view env c x) name arg) env.limit)
called enters env c own x name arg code (method.Query f) =
    queried c own x (enters code c.store (Function f) kind.Query (call_view (view env c x) name arg) env.limit)

-- ---- an answer

-- a cleanup that returns keeps its store, one that traps changes nothing
abbrev pub cleaned : CountedCanister → CallId → Trap → ℕ → Outcome → Work
cleaned c own cause used (Returns store e more) = trapped_with c own store cause (used + more)
cleaned c own cause used (Traps other more) = trapped_with c own c.store cause (used + more)

-- the cleanup runs on the state before the callback, sees nothing of the answer, and may use all instructions again
abbrev pub cleaned_up : Enters → Env → CountedCanister → CallId → Context → Code → Trap → ℕ → Option (ℕ × ℕ) → Work
cleaned_up enters env c own x code cause used None = trapped_with c own c.store cause used
cleaned_up enters env c own x code cause used (Some target) =
    cleaned c own cause used (enters code c.store (Element target.0 target.1) kind.Cleanup (view env c x) env.limit)

abbrev pub called_back : Enters → Env → CountedCanister → CallId → Context → Code → Option (ℕ × ℕ) → Outcome → Work
called_back enters env c own x code cleanup (Returns store e used) = returned c own x store e used
called_back enters env c own x code cleanup (Traps cause used) = cleaned_up enters env c own x code cause used cleanup

abbrev pub kind_of : Response → EntryKind
kind_of (response.Reply arg) = kind.Reply
kind_of (response.Reject code message) = kind.Reject

abbrev pub target_of : Callback → Response → Target
target_of callback (response.Reply arg) = Element callback.reply_fun callback.reply_env
target_of callback (response.Reject code message) = Element callback.reject_fun callback.reject_env

abbrev pub answered_with : Enters → Env → CountedCanister → CallId → Callback → Response → Context → View → Code → Work
answered_with enters env c own callback response x v code =
    called_back enters env c own x code callback.cleanup
    (enters code c.store (target_of callback response) (kind_of response) v env.limit)
