-- What a message that trapped leaves as before (IC Interface Specification, "Message execution" and "Callback invocation").
use Rattle.std.specs.Prelude.{◌≡◌, ℕ, ◌+◌, [], Option, Some, None, option_map, find}
use Rattle.std.specs.List.{filter}
use Rattle.wm_store.specs.Lists.{Lists}
use Rattle.wm_semantics.specs.declared.trap.Trap.{Trap}
use Rattle.wm_semantics.specs.declared.target.Target.TheVariants.{Element}
use Rattle.ic_behaviour.specs.declared.call.CallId.{CallId}
use Rattle.ic_behaviour.specs.declared.call.CallId.TheVariants as call_id
use Rattle.ic_behaviour.specs.declared.call.Origin.TheVariants as origin
use Rattle.ic_behaviour.specs.declared.call.Message.{Message}
use Rattle.ic_behaviour.specs.declared.call.Message.TheVariants.{Call, Answer}
use Rattle.ic_behaviour.specs.declared.context.Context.{Context}
use Rattle.ic_behaviour.specs.declared.env.Env.{Env}
use Rattle.ic_behaviour.specs.declared.execution.EntryKind.TheVariants as kind
use Rattle.ic_behaviour.specs.State.{id_of, Code}
use Rattle.ic_behaviour.specs.Counted.{CountedCanister}
use Rattle.ic_behaviour.specs.Outcomes.{Outcome, Returns, Traps, Enters}
use Rattle.ic_behaviour.specs.Executing.{is_own, view}
use Rattle.ic_behaviour.specs.Closing.{Handled, is_open, closing}
use Rattle.ic_behaviour.specs.Local.{context_of, with_context, with_answer}

-- the canister that has taken the message: with its context, or with the refund and one call less that awaits an answer
abbrev pub taken : CountedCanister → Message → CountedCanister
taken c (Call from sender callee method arg cycles) = with_context (context_of from sender cycles) c
taken c (Answer (origin.Ingress k) sender response refund) = c
taken c (Answer (origin.Canister caller n own callback) sender response refund) = with_answer own refund c

-- the context that the message runs in
abbrev pub own_of : Message → CallId
own_of (Call from sender callee method arg cycles) = id_of from
own_of (Answer (origin.Ingress k) sender response refund) = call_id.Ingress k
own_of (Answer (origin.Canister caller n own callback) sender response refund) = own

-- the cleanup that is set for the callback that the message calls
abbrev pub cleanup_of : Message → Option (ℕ × ℕ)
cleanup_of (Call from sender callee method arg cycles) = None
cleanup_of (Answer (origin.Ingress k) sender response refund) = None
cleanup_of (Answer (origin.Canister caller n own callback) sender response refund) = callback.cleanup

-- ---- the store

-- code that returns leaves its store, code that traps the one that it began on
abbrev pub store_left : Outcome → (before : Lists) → Lists
store_left (Returns store e used) before = store
store_left (Traps cause used) before = before

-- the store that the cleanup leaves, which begins on the store before the callback; without a cleanup that store
abbrev pub cleaned_store : Enters → Env → CountedCanister → Option (ℕ × ℕ) → Option Context → Option Code → Lists
cleaned_store enters env c (Some target) (Some x) (Some code) =
    store_left (enters code c.store (Element target.0 target.1) kind.Cleanup (view env c x) env.limit) c.store
cleaned_store enters env c cleanup x code = c.store

-- the store after a message that trapped
abbrev pub store_after_trap : Enters → Env → CountedCanister → Message → Lists
store_after_trap enters env c m =
    cleaned_store enters env (taken c m) (cleanup_of m) (find (is_own (own_of m)) (taken c m).contexts) c.code

-- ---- the whole

abbrev pub with_own : CallId → Option Trap → Option (CallId × Trap)
with_own own cause = option_map (λ (t : Trap). (own, t)) cause

-- No call goes out, and the answers are those of the contexts that close and of a canister that stops. Open contexts keep
-- their cycles, and the balance falls by the price alone.
pub record TrapKeeps (enters : Enters) (env : Env) (c : CountedCanister) (m : Message) (h : Handled) : Type 0 where
  pub calls : h.calls ≡ []
  pub answers : h.answers ≡ closing (with_own (own_of m) h.trapped) (taken c m)
  pub id : h.canister.id ≡ c.id
  pub controllers : h.canister.controllers ≡ c.controllers
  pub code : h.canister.code ≡ c.code
  pub certified : h.canister.certified ≡ c.certified
  pub next_call : h.canister.next_call ≡ c.next_call
  pub balance : h.canister.balance + h.burned ≡ (taken c m).balance
  pub contexts : h.canister.contexts ≡ filter is_open (taken c m).contexts
  pub outstanding : h.canister.outstanding ≡ (taken c m).outstanding
  pub store : h.canister.store ≡ store_after_trap enters env c m
