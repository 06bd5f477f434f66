-- A canister receives a message (IC Interface Specification, "Call context creation" and "Callback invocation").
use Rattle.std.specs.Prelude.{◌≡◌, ℕ, ◌<◌, Bool, true, false, not, Option, Some, None, find, IsOk}
use Rattle.std.specs.Option.{IsSomeAnd}
use Rattle.wm_valid.specs.Indices.{is_procedure}
use Rattle.wm_valid.specs.Space.{type_of}
use Rattle.ic_behaviour.specs.declared.call.Origin.TheVariants as origin
use Rattle.ic_behaviour.specs.declared.call.Message.{Message}
use Rattle.ic_behaviour.specs.declared.call.Message.TheVariants.{Call, Answer}
use Rattle.ic_behaviour.specs.declared.context.Context.{Context}
use Rattle.ic_behaviour.specs.declared.env.Admitted.{Admitted}
use Rattle.ic_behaviour.specs.declared.env.Admitted.TheVariants.{Update, Query}
use Rattle.ic_behaviour.specs.State.{id_of}
use Rattle.ic_behaviour.specs.Counted.{CountedCanister}
use Rattle.ic_behaviour.specs.Executing.{is_own}
use Rattle.ic_behaviour.specs.Local.{admit, context_of, with_context, with_answer}
use Rattle.ic_state.specs.declared.canister.Code.{Code}

-- ---- what is asked of a message

-- No context has the id of a call. The context of an answer is there, and awaits one; no answer to a user goes to a canister.
abbrev pub IsExpected : CountedCanister → Message → Type 0
IsExpected c (Call from sender callee method arg cycles) = find (is_own (id_of from)) c.contexts ≡ None
IsExpected c (Answer (origin.Ingress k) sender response refund) = ⊥
IsExpected c (Answer (origin.Canister caller n own callback) sender response refund) = IsSomeAnd (find (is_own own) c.contexts) (λ x. 0 < x.outstanding)

-- the canister does not refuse a call
abbrev pub IsAdmitted : CountedCanister → Message → Type 0
IsAdmitted c (Call from sender callee method arg cycles) = IsOk (admit c method)
IsAdmitted c (Answer from sender response refund) = Unit {0}

-- ---- what it brings

-- the context of a call
abbrev pub with_call : Message → CountedCanister → CountedCanister
with_call (Call from sender callee method arg cycles) c = with_context (context_of from sender cycles) c
with_call (Answer from sender response refund) c = c

-- the refund of an answer; one call less has no answer
abbrev pub with_response : Message → CountedCanister → CountedCanister
with_response (Call from sender callee method arg cycles) c = c
with_response (Answer (origin.Ingress k) sender response refund) c = c
with_response (Answer (origin.Canister caller n own callback) sender response refund) c = with_answer own refund c

-- a context whose callbacks run
abbrev pub is_live : Option Context → Bool
is_live None = false
is_live (Some x) = not x.deleted

-- whether a callback runs for the message
abbrev pub runs_callback : CountedCanister → Message → Bool
runs_callback c (Call from sender callee method arg cycles) = false
runs_callback c (Answer (origin.Ingress k) sender response refund) = false
runs_callback c (Answer (origin.Canister caller n own callback) sender response refund) = is_live (find (is_own own) c.contexts)

-- ---- what a call enters

abbrev pub function_of : Admitted → ℕ
function_of (Update f) = f
function_of (Query f) = f

-- the canister has code, whose function takes and gives nothing
abbrev pub CanEnter : Option Code → Admitted → Type 0
CanEnter None entry = ⊥
CanEnter (Some code) entry = is_procedure (type_of code.valid.«module» (function_of entry)) ≡ true
