-- A canister handles a message (IC Interface Specification, "Call context creation", "Message execution" and "Callback invocation").
use Rattle.std.specs.Prelude.{ℕ, ◌+◌, ◌*◌, ◌-◌, nat_lt, true, false, cond, List, [], ◌∷◌, ◌++◌, Option, Some, None, Result, Ok, Err, find}
use Rattle.ic_behaviour.specs.declared.call.CallId.{CallId}
use Rattle.ic_behaviour.specs.declared.call.Callback.{Callback}
use Rattle.ic_behaviour.specs.declared.call.Origin.{Origin}
use Rattle.ic_behaviour.specs.declared.call.Origin.TheVariants as origin
use Rattle.ic_behaviour.specs.declared.call.Response.{Response}
use Rattle.ic_behaviour.specs.declared.call.Message.{Message}
use Rattle.ic_behaviour.specs.declared.call.Message.TheVariants.{Call, Answer}
use Rattle.ic_behaviour.specs.declared.context.Context.{Context}
use Rattle.ic_behaviour.specs.declared.phase.Phase.{Phase}
use Rattle.ic_behaviour.specs.declared.phase.Phase.TheVariants.{Running}
use Rattle.ic_behaviour.specs.declared.env.Env.{Env}
use Rattle.ic_behaviour.specs.declared.env.Admitted.{Admitted}
use Rattle.ic_behaviour.specs.declared.env.Refusal.{Refusal}
use Rattle.ic_behaviour.specs.declared.env.Refusal.TheVariants.{NotRunning, NoModule, NoMethod}
use Rattle.ic_behaviour.specs.State.{id_of, Code}
use Rattle.ic_behaviour.specs.Counted.{CountedCanister}
use Rattle.ic_behaviour.specs.Texts.{refuses, out_of_cycles}
use Rattle.ic_behaviour.specs.Outcomes.{Enters, method_of}
use Rattle.ic_behaviour.specs.Executing.{Work, nothing, view, answer_view, change, is_own, called, answered_with}
use Rattle.ic_behaviour.specs.Closing.{Handled, finished}

-- ---- a call that is refused

abbrev pub or_no_method : Code → Option Admitted → Result (Code × Admitted) Refusal
or_no_method code None = Err NoMethod
or_no_method code (Some function) = Ok (code, function)

abbrev pub admitted_by : Phase → Option Code → (method : List ℕ) → Result (Code × Admitted) Refusal
admitted_by Running None method = Err NoModule
admitted_by Running (Some code) method = or_no_method code (method_of code method)
admitted_by phase code method = Err NotRunning

-- the code, and the function that the method is
abbrev pub admitted : CountedCanister → (method : List ℕ) → Result (Code × Admitted) Refusal
admitted c method = admitted_by c.phase c.code method

abbrev pub function_of : Result (Code × Admitted) Refusal → Result Admitted Refusal
function_of (Ok entry) = Ok entry.1
function_of (Err refusal) = Err refusal

abbrev pub admit : CountedCanister → (method : List ℕ) → Result Admitted Refusal
admit c method = function_of (admitted c method)

-- the cycles go back, and no context is made
abbrev pub refused : CountedCanister → Origin → ℕ → Response → Handled
refused c from cycles response = record {
  canister = c;
  calls = [];
  answers = (record { origin = from; response = response; refund = cycles }) ∷ [];
  used = 0;
  burned = 0;
  trapped = None;
}

-- ---- a call that is taken

abbrev pub context_of : Origin → (sender : List ℕ) → (cycles : ℕ) → Context
context_of from sender cycles = record { id = id_of from; origin = from; caller = sender; must_respond = true; deleted = false; available = cycles; outstanding = 0 }

abbrev pub with_context : Context → CountedCanister → CountedCanister
with_context x c = record c { contexts = c.contexts ++ x ∷ [] }

-- the context is appended, and the entry runs
abbrev pub begin_call : Enters → Env → CountedCanister → Context → (method arg : List ℕ) → Code × Admitted → Handled
begin_call enters env c x method arg entry =
    finished env.price (called enters env (with_context x c) x.id x method arg entry.0 entry.1)

abbrev pub local_call : Enters → Env → CountedCanister → Origin → (sender method arg : List ℕ) → ℕ → Result (Code × Admitted) Refusal → Handled
local_call enters env c from sender method arg cycles (Err refusal) = refused c from cycles (refuses refusal)
local_call enters env c from sender method arg cycles (Ok entry) =
    cond (nat_lt c.balance (env.limit * env.price)) (refused c from cycles out_of_cycles)
    (begin_call enters env c (context_of from sender cycles) method arg entry)

-- ---- an answer

abbrev pub one_less : Context → Context
one_less x = record x { outstanding = x.outstanding - 1 }

-- the refund goes to the balance, and one call less has no answer
abbrev pub with_answer : CallId → (refund : ℕ) → CountedCanister → CountedCanister
with_answer own refund c = record c { balance = c.balance + refund; contexts = change (is_own own) one_less c.contexts; outstanding = c.outstanding - 1 }

-- no callback runs for a deleted context
abbrev pub on_answer : Enters → Env → CountedCanister → CallId → Callback → Response → ℕ → Option Context → Option Code → Work
on_answer enters env c own callback response refund (Some x) (Some code) =
    cond x.deleted (nothing c) (answered_with enters env c own callback response x (answer_view (view env c x) response refund) code)
on_answer enters env c own callback response refund found code = nothing c

abbrev pub begin_answer : Enters → Env → CountedCanister → CallId → Callback → Response → (refund : ℕ) → Handled
begin_answer enters env c own callback response refund =
    finished env.price (on_answer enters env c own callback response refund (find (is_own own) c.contexts) c.code)

-- ---- the whole

-- it depends on the canister with its counts, the message, the time, the limit and the price alone
unfoldable pub local : Enters → Env → CountedCanister → Message → Handled
local enters env c (Call from sender callee method arg cycles) = local_call enters env c from sender method arg cycles (admitted c method)
local enters env c (Answer (origin.Ingress k) sender response refund) = finished env.price (nothing c)
local enters env c (Answer (origin.Canister caller n own callback) sender response refund) =
    begin_answer enters env (with_answer own refund c) own callback response refund
