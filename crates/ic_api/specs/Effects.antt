-- What an execution did, at its end (IC Interface Specification, "Message execution").
use Rattle.std.specs.Prelude.{ℕ, ◌+◌}
use Rattle.ic_behaviour.specs.declared.execution.Effects.{Effects}
use Rattle.ic_api.specs.declared.execution.Execution.{Execution}
use Rattle.ic_api.specs.Calling.{abandoned}
use Rattle.ic_api.specs.IsRecord.{calls_cycles, refund_of}
use Rattle.ic_api.specs.Running.{Running}

abbrev pub effects : Execution → Effects
effects es = record {
  balance = es.view.balance;
  available = es.view.available;
  answer = es.answer;
  calls = es.performed;
  certified = es.view.certified;
  accepted_message = es.accepted_message;
}

-- a call that is begun and not performed is dropped, and its cycles return
abbrev pub effects_of : Running → Effects
effects_of h = effects (abandoned h.es)

abbrev pub effects_cycles : Effects → ℕ
effects_cycles e = e.balance + e.available + refund_of e.answer + calls_cycles e.calls
