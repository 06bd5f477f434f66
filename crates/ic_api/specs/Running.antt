-- The host of a canister's code (IC Interface Specification, "System API"): a call is charged, its kind is looked at, and then it
-- does what its row of the table says.
use Rattle.std.specs.Prelude.{ℕ, ◌+◌, List, [], false, Option, Some, None, slice_get, nat_le, if◌then◌else◌}
use Rattle.wm_valid.specs.declared.system_api.SystemCall.{SystemCall}
use Rattle.wm_valid.specs.SystemApi.{calls}
use Rattle.wm_store.specs.Lists.{Lists, HoldsBytes}
use Rattle.wm_semantics.specs.declared.trap.Trap.TheVariants as trap
use Rattle.wm_semantics.specs.declared.host.HostAnswer.{HostAnswer}
use Rattle.wm_semantics.specs.Hosts.{HasPages}
use Rattle.wm_semantics.specs.Fuel.{Reply, HostOf, answers_of}
use Rattle.ic_behaviour.specs.declared.execution.EntryKind.{EntryKind}
use Rattle.ic_behaviour.specs.declared.execution.View.{View}
use Rattle.ic_api.specs.declared.execution.Execution.{Execution}
use Rattle.ic_api.specs.Steps.{Step, Now, fails, traps}
use Rattle.ic_api.specs.Kinds.{has, kinds_of}
use Rattle.ic_api.specs.Charges.{surcharge}
use Rattle.ic_api.specs.Meaning.{meaning}
use Rattle.ic_api.specs.IsRecord.{IsRecord}

-- what contracts see of an `Api`
pub record Running : Type 0 where
  pub kind : EntryKind
  pub es : Execution

-- an execution that begins: nothing has happened in it
abbrev pub starting : EntryKind → View → Running
starting kind view = record {
  kind = kind;
  es = record { view = view; appended = []; answer = None; begun = None; performed = []; accepted_message = false };
}

-- ---- the whole call

abbrev pub cost : SystemCall → List ℕ → Lists → ℕ
cost call args lists = 1 + surcharge call args lists

abbrev pub permitted : EntryKind → SystemCall → List ℕ → Now → Step Now
permitted kind call args now = if has (kinds_of call) kind then meaning kind call args now else fails now

-- the step, and what is used after it
pub record Paid : Type 0 where
  pub step : Step Now
  pub used : ℕ

abbrev pub api : EntryKind → SystemCall → List ℕ → ℕ → ℕ → Now → Paid
api kind call args limit used now =
    if nat_le (used + cost call args now.lists) limit
    then record { step = permitted kind call args now; used = used + cost call args now.lists }
    else record { step = traps trap.Limit now; used = used }

abbrev pub reply_of : EntryKind → Paid → Reply Running
reply_of kind paid = record {
  answer = paid.step.answer;
  host = record { kind = kind; es = paid.step.after.es };
  store = paid.step.after.lists;
  used = paid.used;
}

-- what is no call traps
abbrev pub asked : Running → Option SystemCall → List ℕ → Lists → ℕ → ℕ → Reply Running
asked h None args s limit used =
    reply_of h.kind (record { step = fails (record { es = h.es; lists = s }); used = used })
asked h (Some call) args s limit used =
    reply_of h.kind (api h.kind call args limit used (record { es = h.es; lists = s }))

-- the host as a function
unfoldable pub api_reply : HostOf Running
api_reply h import args s limit used = asked h (slice_get calls import) args s limit used

-- ---- the relation of the host: the function, and the facts that the code keeps

pub record Meets (old : Running) (import : ℕ) (args : List ℕ) (s : Lists) (limit used : ℕ) (answer : HostAnswer) (new : Running) (t : Lists) (used' : ℕ) : Type 0 where
  pub replies : answers_of api_reply old import args s limit used answer new t used'
  pub is_record : IsRecord old.es
  pub pages : HasPages 256 s.stable
  pub bytes : HoldsBytes t
