-- What an execution keeps, from what it sees to its effects; no standard has this.
use Rattle.std.specs.Prelude.{◌≡◌, ℕ, ◌+◌, ◌≤◌, ◌<◌, ◌^◌, true, false, [], length, Some, None}
use Rattle.ic_behaviour.specs.declared.call.Response.{Response}
use Rattle.ic_behaviour.specs.declared.execution.EntryKind.{EntryKind}
use Rattle.ic_behaviour.specs.declared.execution.View.{View}
use Rattle.ic_behaviour.specs.declared.execution.Effects.{Effects}
use Rattle.ic_api.specs.Kinds.{may_call}
use Rattle.ic_api.specs.IsRecord.{refund_of}
use Rattle.ic_api.specs.Effects.{effects_cycles}

pub record Executed (kind : EntryKind) (v : View) (e : Effects) : Type 0 where
  -- cycles are neither made nor lost; what an answer sends back and what calls take along counts
  pub cycles : effects_cycles e ≡ v.balance + v.available
  pub few : v.outstanding ≤ 500 → v.outstanding + length e.calls ≤ 500
  pub numbers : v.next_call < 2 ^ 64 → v.next_call + length e.calls < 2 ^ 64
  -- who has answered gives no answer
  pub late : v.responded ≡ true → e.answer ≡ None
  -- what is available, and what an answer sends back, are no more than was available
  pub gift : e.available + refund_of e.answer ≤ v.available
  -- an answer leaves nothing available
  pub spent : (a : Response × ℕ) → e.answer ≡ Some a → e.available ≡ 0
  -- but in an update and in a callback, the balance stays and no call goes out
  pub quiet : may_call kind ≡ false → (e.balance ≡ v.balance) × (e.calls ≡ [])
