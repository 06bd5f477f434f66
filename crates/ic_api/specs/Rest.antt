-- Reject codes, controllers, inspection, certified data and traps (IC Interface Specification, "System API").
use Rattle.std.specs.Prelude.{ℕ, true, List, length, Option, Some, None, ◌&&◌, nat_le, bytes_eq, if◌then◌else◌}
use Rattle.std.specs.List.{list_any}
use Rattle.std.specs.Str.{is_utf8}
use Rattle.wm_store.specs.Lists.{part}
use Rattle.wm_semantics.specs.declared.trap.Trap.{Trap}
use Rattle.wm_semantics.specs.declared.trap.Trap.TheVariants as trap
use Rattle.wm_semantics.specs.declared.host.HostAnswer.{HostAnswer}
use Rattle.wm_semantics.specs.declared.host.HostAnswer.TheVariants as answer
use Rattle.ic_behaviour.specs.declared.execution.EntryKind.{EntryKind}
use Rattle.ic_behaviour.specs.declared.execution.EntryKind.TheVariants as kind
use Rattle.ic_api.specs.declared.execution.Execution.{Execution}
use Rattle.ic_api.specs.Steps.{Step, done, fails}
use Rattle.ic_api.specs.Memory.{with_bytes}

-- 0 in a reply callback
abbrev pub msg_reject_code : EntryKind → Execution → ℕ
msg_reject_code kind.Reply es = 0
msg_reject_code _ es = es.view.reject_code

abbrev pub controls : List (List ℕ) → List ℕ → HostAnswer
controls controllers id =
    if nat_le (length id) 29 then answer.Number (if list_any (λ c. bytes_eq c id) controllers then 1 else 0)
    else answer.Trap trap.Api

abbrev pub answer_of : Option (List ℕ) → (List ℕ → HostAnswer) → HostAnswer
answer_of None go_on = answer.Trap trap.Api
answer_of (Some bytes) go_on = go_on bytes

abbrev pub is_controller : ℕ → ℕ → List ℕ → Execution → HostAnswer
is_controller src size memory es = answer_of (part src size memory) (controls es.view.controllers)

abbrev pub accept_message : Execution → Step Execution
accept_message es = if es.accepted_message then fails es else done (record es { accepted_message = true })

abbrev pub certifies : List ℕ → Execution → Execution
certifies bytes es = record es { view = record es.view { certified = bytes } }

abbrev pub certified_data_set : ℕ → ℕ → List ℕ → Execution → Step Execution
certified_data_set src size memory es =
    if nat_le size 32 then with_bytes (part src size memory) es (λ bytes. done (certifies bytes es))
    else fails es

-- the message, if it can be told
abbrev pub says_why : List ℕ → Trap
says_why message = if nat_le (length message) 8192 && is_utf8 message then trap.Explicit message else trap.Api

abbrev pub trap_of : Option (List ℕ) → Trap
trap_of None = trap.Api
trap_of (Some message) = says_why message

abbrev pub trap_with : ℕ → ℕ → List ℕ → Trap
trap_with src size memory = trap_of (part src size memory)
