use Rattle.std.proofs.Common.{◌-◌, ◌≤◌}
use Rattle.ic_behaviour.specs.Steps.{along}
use Rattle.ic_behaviour.specs.Round.{sweep}
use Rattle.ct_run.specs.Called.{rules_of}
use Rattle.ct_run.proofs.Hearings.{Sweep}
use Rattle.ct_run.proofs.runner.Runner.heard_sweep.Given as goal

-- what is left to go through leads to the end
abbrev pub invariant-loop : goal.invariant-loop
invariant-loop g l = record {
  few : l.place ≤ l.counter;
  left : Sweep (rules_of l.self.charge) (along (rules_of l.self.charge) l.fn.world (sweep (rules_of l.self.charge) l.count 0 l.fn.world)) l.world (l.count - l.counter) l.place;
}
