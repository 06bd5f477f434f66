use Rattle.std.proofs.Common.{◌≤◌, drop}
use Rattle.ct_run.specs.Runs.{without_interleaves}
use Rattle.ct_run.proofs.Walks.{Still}
use Rattle.ct_run.proofs.runner.Runner.steps.Given as goal

-- what is left to walk
abbrev pub invariant-loop-step : goal.invariant-loop-step
invariant-loop-step g l = record {
  few : l.place ≤ l.step-index;
  still : Still l.self l.fn.world l.fn.names (without_interleaves l.steps) l.world l.names (without_interleaves (drop l.step-index l.steps)) l.place;
}
