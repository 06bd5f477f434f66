-- What users ask of a state as it is (IC Interface Specification, "Request: Query call" and "Ingress message inspection").
use Rattle.std.specs.Prelude.{ℕ, Bool, true, Option, Some, None}
use Rattle.std.specs.Map.{lookup}
use Rattle.ic_behaviour.specs.declared.call.Response.{Response}
use Rattle.ic_behaviour.specs.State.{at, Canister, State}
use Rattle.ic_behaviour.specs.Counted.{counted}
use Rattle.ic_behaviour.specs.Texts.{no_canister}
use Rattle.ic_behaviour.specs.Deliver.{env_at}
use Rattle.ic_behaviour.specs.Entry.{enters_by}
use Rattle.ic_api.specs.System.{system_api}
use Rattle.ic_entry.specs.Query.{query_response}
use Rattle.ic_entry.specs.Inspection.{is_accepted}
use Rattle.ic_script.specs.declared.Ask.{Ask}

-- the most instructions of an execution, and the price of one, are given

-- the answer of the canister that is asked; the management canister answers no queries
abbrev pub answer_by : (limit price : ℕ) → State → Ask → Option Canister → Response
answer_by limit price s ask None = no_canister ask.callee
answer_by limit price s ask (Some c) =
    query_response (enters_by system_api) (env_at s.time limit price) (counted s ask.callee c) ask.sender ask.method ask.arg

unfoldable pub answer_now : (limit price : ℕ) → State → Ask → Response
answer_now limit price s ask = answer_by limit price s ask (lookup (at ask.callee) s.canisters)

-- whether the callee accepts a call before it is submitted; where there is no canister every call is accepted
abbrev pub accepts : (limit price : ℕ) → State → Ask → Option Canister → Bool
accepts limit price s ask None = true
accepts limit price s ask (Some c) =
    is_accepted (enters_by system_api) (env_at s.time limit price) (counted s ask.callee c) ask.sender ask.method ask.arg

unfoldable pub accepts_now : (limit price : ℕ) → State → Ask → Bool
accepts_now limit price s ask = accepts limit price s ask (lookup (at ask.callee) s.canisters)
