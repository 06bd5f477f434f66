-- A user's query (IC Interface Specification, "Request: Query call").
use Rattle.std.specs.Prelude.{ℕ, List, Option, Some, None, Result, Ok, Err}
use Rattle.wm_valid.specs.declared.entry.EntryName.TheVariants as entry
use Rattle.wm_valid.specs.Entries.{entry_of}
use Rattle.wm_semantics.specs.declared.target.Target.TheVariants.{Function}
use Rattle.ic_behaviour.specs.declared.call.Response.{Response}
use Rattle.ic_behaviour.specs.declared.phase.Phase.{Phase}
use Rattle.ic_behaviour.specs.declared.phase.Phase.TheVariants.{Running}
use Rattle.ic_behaviour.specs.declared.env.Env.{Env}
use Rattle.ic_behaviour.specs.declared.env.Refusal.{Refusal}
use Rattle.ic_behaviour.specs.declared.env.Refusal.TheVariants.{NotRunning, NoModule, NoMethod}
use Rattle.ic_behaviour.specs.declared.execution.EntryKind.TheVariants as kind
use Rattle.ic_behaviour.specs.State.{Code}
use Rattle.ic_behaviour.specs.Counted.{CountedCanister}
use Rattle.ic_behaviour.specs.Texts.{refuses, no_response, trapped_by}
use Rattle.ic_behaviour.specs.Outcomes.{Outcome, Returns, Traps, Enters}
use Rattle.ic_behaviour.specs.Views.{user_view}

abbrev pub or_no_query : Code → Option ℕ → Result (Code × ℕ) Refusal
or_no_query code None = Err NoMethod
or_no_query code (Some function) = Ok (code, function)

-- the code, and the function of the query; an update is no query
abbrev pub query_of : Phase → Option Code → (method : List ℕ) → Result (Code × ℕ) Refusal
query_of Running None method = Err NoModule
query_of Running (Some code) method = or_no_query code (entry_of code.«module» entry.Query method)
query_of phase code method = Err NotRunning

abbrev pub function_in : Result (Code × ℕ) Refusal → Result ℕ Refusal
function_in (Ok entry) = Ok entry.1
function_in (Err refusal) = Err refusal

abbrev pub answer_or_none : Option (Response × ℕ) → Response
answer_or_none None = no_response
answer_or_none (Some answer) = answer.0

-- what the user is told; nothing else of the execution is kept
abbrev pub response_to : Outcome → Response
response_to (Returns store e used) = answer_or_none e.answer
response_to (Traps cause used) = trapped_by cause

abbrev pub answered_query : Enters → Env → CountedCanister → (sender method arg : List ℕ) → Result (Code × ℕ) Refusal → Response
answered_query enters env c sender method arg (Err refusal) = refuses refusal
answered_query enters env c sender method arg (Ok entry) =
    response_to (enters entry.0 c.store (Function entry.1) kind.Query (user_view env c sender method arg) env.limit)

abbrev pub query_response : Enters → Env → CountedCanister → (sender method arg : List ℕ) → Response
query_response enters env c sender method arg = answered_query enters env c sender method arg (query_of c.phase c.code method)
