use Rattle.std.proofs.Common.{drop}
use Rattle.ct_check.specs.Holds.{all_checked, step}
use Rattle.ct_check.proofs.Loops.{Still}
use Rattle.ct_check.proofs.checker.Checker.steps.Given as goal

-- those before, and those that are left
abbrev pub invariant-loop-step : goal.invariant-loop-step
invariant-loop-step l = Still l.items.items (all_checked step l.self (drop l.step-index l.steps)) (all_checked step l.fn.self l.steps)
