-- What each call of the System API keeps of an execution; no standard has this.
use Rattle.std.specs.Prelude.{◌≡◌, ◌+◌, ◌≤◌, ◌<◌, ◌^◌, true, false, [], length}
use Rattle.ic_behaviour.specs.declared.execution.View.{View}
use Rattle.ic_api.specs.declared.execution.Execution.{Execution}
use Rattle.ic_api.specs.Kinds.{may_call}
use Rattle.ic_api.specs.IsRecord.{execution_cycles, refund_of, IsOnceAnswered, IsSpent}
use Rattle.ic_api.specs.Running.{Running}

-- what is seen, but for what calls change
abbrev pub unchanging : View → View
unchanging v = record v { balance = 0; available = 0; responded = false; certified = [] }

pub record RecordKept (old new : Execution) : Type 0 where
  -- cycles are neither made nor lost
  pub cycles : IsOnceAnswered old → execution_cycles new ≡ execution_cycles old
  pub once : IsOnceAnswered old → IsOnceAnswered new
  -- what is available, and what an answer sends back, are never more
  pub gift : new.view.available + refund_of new.answer ≤ old.view.available + refund_of old.answer
  -- an answer stays
  pub late : old.view.responded ≡ true → (new.view.responded ≡ true) × (new.answer ≡ old.answer)
  pub spent : IsSpent old → IsSpent new
  pub few : old.view.outstanding + length old.performed ≤ 500 → new.view.outstanding + length new.performed ≤ 500
  pub numbers : old.view.next_call + length old.performed < 2 ^ 64 → new.view.next_call + length new.performed < 2 ^ 64
  pub view : unchanging new.view ≡ unchanging old.view

-- neither cycles nor calls
pub record Quiet (old new : Execution) : Type 0 where
  pub balance : new.view.balance ≡ old.view.balance
  pub begun : new.begun ≡ old.begun
  pub performed : new.performed ≡ old.performed

pub record RunKept (old new : Running) : Type 0 where
  pub kind : new.kind ≡ old.kind
  pub es : RecordKept old.es new.es
  -- but in an update and in a callback
  pub quiet : may_call old.kind ≡ false → Quiet old.es new.es
