use Rattle.std.proofs.Common.{drop}
use Rattle.ct_check.specs.Holds.{all_checked, outcome}
use Rattle.ct_check.proofs.Loops.{Still}
use Rattle.ct_check.proofs.checker.Checker.outcomes_of.Given as goal

-- those before, and those that are left
abbrev pub invariant-loop-outcome : goal.invariant-loop-outcome
invariant-loop-outcome l = Still l.items.items (all_checked (outcome l.lets l.at) l.self (drop l.outcome-index l.outcomes)) (all_checked (outcome l.lets l.at) l.fn.self l.outcomes)
