-- The host of a canister's code to which somebody listens (IC Interface Specification, "Debugging aids"). It answers each call as ever, and
-- what `debug_print` is given is kept beside what the execution does.
use Rattle.std.specs.Prelude.{◌≡◌, ℕ, Bool, true, false, ◌&&◌, cond, List, [], ◌∷◌, Option, Some, None, slice_get}
use Rattle.std.specs.Option.{unwrap_or}
use Rattle.ic_heard.specs.Hears.{Speech, hears}
use Rattle.wm_valid.specs.declared.system_api.SystemCall.{SystemCall}
use Rattle.wm_valid.specs.declared.system_api.SystemCall.TheVariants as call
use Rattle.wm_valid.specs.SystemApi.{calls}
use Rattle.wm_store.specs.Lists.{Lists, part}
use Rattle.wm_semantics.specs.declared.host.HostAnswer.{HostAnswer}
use Rattle.wm_semantics.specs.declared.host.HostAnswer.TheVariants as answer
use Rattle.wm_semantics.specs.declared.target.Target.{Target}
use Rattle.wm_semantics.specs.Steps.{Outcome}
use Rattle.wm_semantics.specs.Fuel.{Reply, HostOf, invoked}
use Rattle.ic_behaviour.specs.declared.execution.EntryKind.{EntryKind}
use Rattle.ic_behaviour.specs.declared.execution.View.{View}
use Rattle.ic_behaviour.specs.State.{Code}
use Rattle.ic_behaviour.specs.Entry.{SystemApi}
use Rattle.ic_api.specs.Running.{Running, starting, api_reply, Meets}
use Rattle.ic_api.specs.Effects.{effects_of}

-- what contracts see of a `Hearing`
pub record Listening : Type 0 where
  pub run : Running
  pub heard : Speech

-- ---- what a call says

-- (src, size); what passes the end of memory is said as no bytes
abbrev pub text_at : List ℕ → Lists → List ℕ
text_at (src ∷ size ∷ args) lists = unwrap_or (part src size lists.memory) []
text_at args lists = []

abbrev pub is_debug_print : SystemCall → Bool
is_debug_print call.DebugPrint = true
is_debug_print _ = false

abbrev pub is_nothing : HostAnswer → Bool
is_nothing answer.Nothing = true
is_nothing _ = false

-- a call of `debug_print` that was paid for says a text
abbrev pub says : Option SystemCall → HostAnswer → Bool
says None told = false
says (Some call) told = is_debug_print call && is_nothing told

-- what was heard, after a call; the store is that after the call, which is that before it where it says a text
abbrev pub hears_call : Option SystemCall → HostAnswer → List ℕ → Lists → Speech → Speech
hears_call asked told args lists heard = cond (says asked told) (hears (text_at args lists) heard) heard

-- ---- the host

abbrev pub with_heard : Speech → Option SystemCall → List ℕ → Reply Running → Reply Listening
with_heard heard asked args r = record {
  answer = r.answer;
  host = record { run = r.host; heard = hears_call asked r.answer args r.store heard };
  store = r.store;
  used = r.used;
}

-- the host as a function
unfoldable pub hearing_reply : HostOf Listening
hearing_reply h import args s limit used = with_heard h.heard (slice_get calls import) args (api_reply h.run import args s limit used)

-- its relation: that of the System API, and what was heard
pub record Hears (old : Listening) (import : ℕ) (args : List ℕ) (s : Lists) (limit used : ℕ) (told : HostAnswer) (new : Listening) (t : Lists) (used' : ℕ) : Type 0 where
  pub meets : Meets old.run import args s limit used told new.run t used'
  pub heard : new.heard ≡ hears_call (slice_get calls import) told args t old.heard

-- ---- executions

-- an execution that begins, after this was heard
abbrev pub listening : Speech → EntryKind → View → Listening
listening heard kind view = record { run = starting kind view; heard = heard }

abbrev pub hearing_api : Speech → SystemApi Listening
hearing_api heard = record { reply = hearing_reply; begin = listening heard; effects = λ h. effects_of h.run }

abbrev pub heard_in : Speech → Option (Outcome Listening) → Speech
heard_in before None = before
heard_in before (Some o) = o.host.heard

-- What was heard after code was entered, also where it trapped: what was heard before, and what it said.
unfoldable pub heard_after : Speech → Code → Lists → Target → EntryKind → View → (limit spent : ℕ) → Speech
heard_after before code s target kind view limit spent =
    heard_in before (invoked hearing_reply code.«module» limit (listening before kind view) s spent target)
