-- A message that was executed, as what it did. No standard has this.
use Rattle.std.specs.Prelude.{ℕ, Bool, ◌+◌, ◌<◌, ◌≤◌, ◌^◌, ◌≡◌, true, false, length, option_map}
use Rattle.wm_semantics.specs.declared.trap.Trap.{Trap}
use Rattle.ic_behaviour.specs.declared.call.Message.{Message}
use Rattle.ic_behaviour.specs.declared.call.CallId.{CallId}
use Rattle.ic_behaviour.specs.declared.call.Answered.{Answered}
use Rattle.ic_behaviour.specs.declared.context.Context.{Context}
use Rattle.ic_behaviour.specs.declared.env.Admitted.{Admitted}
use Rattle.ic_behaviour.specs.declared.env.Admitted.TheVariants.{Update, Query}
use Rattle.ic_behaviour.specs.declared.execution.EntryKind.{EntryKind}
use Rattle.ic_behaviour.specs.declared.execution.EntryKind.TheVariants as kind
use Rattle.ic_behaviour.specs.declared.execution.Effects.{Effects}
use Rattle.ic_behaviour.specs.Totals.{total}
use Rattle.ic_behaviour.specs.Items.{item_of, cycles_in}
use Rattle.ic_behaviour.specs.Counted.{CountedCanister}
use Rattle.ic_behaviour.specs.Executing.{Work}
use Rattle.ic_behaviour.specs.Closing.{Handled}
use Rattle.ic_state.specs.declared.canister.Canister.{Canister}
use Rattle.ic_state.specs.Seen.{seen}
use Rattle.ic_state.specs.IsCanister.{cycles_of}
use Rattle.ic_exec.specs.declared.executed.Executed.{Executed}
use Rattle.ic_exec.specs.declared.work.Work.{Work as StoredWork}
use Rattle.ic_exec.specs.declared.work.Done.{Done}

abbrev pub handled_of : Executed → Handled
handled_of e = record { canister = seen e.canister; calls = e.calls; answers = e.answers; used = e.used; burned = e.burned; trapped = e.trapped }

-- what was done in a context, with the canister as it is then
abbrev pub work_of : (own : CallId) → Canister → StoredWork → Work
work_of own c w = record { canister = seen c; calls = w.calls; answers = w.answers; used = w.used; trapped = option_map (λ (cause : Trap). (own, cause)) w.trapped }

abbrev pub done_of : Canister → Done → Handled
done_of c d = record { canister = seen c; calls = d.calls; answers = d.answers; used = d.used; burned = d.burned; trapped = d.trapped }

-- the function of a method, what kind of entry it is, and whether what it does to the store is kept
abbrev pub parts_of : Admitted → ℕ × EntryKind × Bool
parts_of (Update f) = (f, kind.Update, true)
parts_of (Query f) = (f, kind.Query, false)

-- the cycles of a message: those of a call, or the refund of an answer
abbrev pub message_cycles : Message → ℕ
message_cycles m = cycles_in (item_of m)

-- the cycles that are there afterwards, and those that were burned
abbrev pub executed_cycles : Executed → ℕ
executed_cycles e = cycles_of e.canister + total message_cycles e.calls + total (λ (a : Answered). a.refund) e.answers + e.burned

-- effects that leave the canister what it keeps
pub record HasRoomFor (c : CountedCanister) (x : Context) (e : Effects) : Type 0 where
  pub few : c.outstanding + length e.calls ≤ 500
  pub numbers : c.next_call + length e.calls < 2 ^ 64
  pub cycles : e.balance + e.available ≤ c.balance + x.available
  pub answered : x.must_respond ≡ false → e.available ≡ 0
