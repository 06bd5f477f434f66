use Rattle.std.proofs.Common.{◌≤◌, length, drop}
use Rattle.ic_mgmt.specs.Sweeping.{Reaches}
use Rattle.ic_mgmt.specs.Ways.{HasWays}
use Rattle.ic_mgmt.proofs.second.all_met.Given as goal

abbrev pub invariant-loop-message : goal.invariant-loop-message
invariant-loop-message l = record {
  reaches : Reaches l.limit l.fn.parts l.sweep.kept (drop (length l.yielded) l.fn.parts.messages) l.sweep.rest l.sweep.handled;
  ways : HasWays l.sweep.left l.sweep.kept;
  few : l.sweep.handled ≤ length l.yielded;
}
