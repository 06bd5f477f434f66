-- Answers (IC Interface Specification, "System API", "Responding").
use Rattle.std.specs.Prelude.{ℕ, ◌+◌, true, List, [], ◌++◌, length, Some, ◌&&◌, nat_le, if◌then◌else◌}
use Rattle.std.specs.Str.{is_utf8}
use Rattle.wm_store.specs.Lists.{part}
use Rattle.ic_behaviour.specs.declared.call.Response.{Response}
use Rattle.ic_behaviour.specs.declared.call.Response.TheVariants as response
use Rattle.ic_api.specs.declared.execution.Execution.{Execution}
use Rattle.ic_api.specs.Steps.{Step, done, fails}
use Rattle.ic_api.specs.Memory.{with_bytes}

-- the most bytes of a reply, of a reject message and of an argument
abbrev pub most_bytes : ℕ
most_bytes = 2097152

abbrev pub appends : List ℕ → Execution → Step Execution
appends bytes es =
    if nat_le (length es.appended + length bytes) most_bytes then done (record es { appended = es.appended ++ bytes })
    else fails es

abbrev pub msg_reply_data_append : ℕ → ℕ → List ℕ → Execution → Step Execution
msg_reply_data_append src size memory es =
    if es.view.responded then fails es
    else with_bytes (part src size memory) es (λ bytes. appends bytes es)

-- the answer is given: what is available goes back with it
abbrev pub responded : Response → Execution → Execution
responded response es = record es {
  view = record es.view { available = 0; responded = true };
  appended = [];
  answer = Some (response, es.view.available);
}

abbrev pub msg_reply : Execution → Step Execution
msg_reply es = if es.view.responded then fails es else done (responded (response.Reply es.appended) es)

abbrev pub rejects : List ℕ → Execution → Step Execution
rejects message es =
    if nat_le (length message) most_bytes && is_utf8 message
    then done (responded (response.Reject 4 message) es)
    else fails es

abbrev pub msg_reject : ℕ → ℕ → List ℕ → Execution → Step Execution
msg_reject src size memory es =
    if es.view.responded then fails es
    else with_bytes (part src size memory) es (λ message. rejects message es)
