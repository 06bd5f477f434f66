-- What the record of an execution keeps (IC Interface Specification, "System API").
use Rattle.std.specs.Prelude.{◌≡◌, ℕ, ◌+◌, ◌<◌, ◌≤◌, ◌^◌, false, List, length, Option, Some, None}
use Rattle.ic_behaviour.specs.declared.call.Response.{Response}
use Rattle.ic_behaviour.specs.declared.execution.OutCall.{OutCall}
use Rattle.ic_behaviour.specs.Totals.{total}
use Rattle.ic_api.specs.declared.execution.Execution.{Execution}
use Rattle.ic_api.specs.Calling.{begun_cycles}

abbrev pub refund_of : Option (Response × ℕ) → ℕ
refund_of None = 0
refund_of (Some answer) = answer.1

abbrev pub calls_cycles : List OutCall → ℕ
calls_cycles calls = total (λ (call : OutCall). call.cycles) calls

-- all cycles of the execution
abbrev pub execution_cycles : Execution → ℕ
execution_cycles es =
    es.view.balance + es.view.available + refund_of es.answer + calls_cycles es.performed + begun_cycles es.begun

-- an answer is given once
abbrev pub IsOnceAnswered : Execution → Type 0
IsOnceAnswered es = es.view.responded ≡ false → es.answer ≡ None

-- an answer sends back all that was available
abbrev pub IsSpent : Execution → Type 0
IsSpent es = (a : Response × ℕ) → es.answer ≡ Some a → es.view.available ≡ 0

pub record IsRecord (es : Execution) : Type 0 where
  pub cycles : execution_cycles es < 2 ^ 127
  pub outstanding : es.view.outstanding + length es.performed ≤ 500
  pub numbers : es.view.next_call + length es.performed < 2 ^ 64
  pub once : IsOnceAnswered es
  -- the numbers that calls answer are in their types' ranges
  pub time : es.view.time < 2 ^ 64
  pub phase : es.view.phase_number < 2 ^ 32
  pub code : es.view.reject_code < 2 ^ 32
