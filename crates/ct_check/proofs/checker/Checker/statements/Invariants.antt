use Rattle.std.proofs.Common.{drop}
use Rattle.ct_check.specs.Holds.{all_checked, statement}
use Rattle.ct_check.proofs.Loops.{Still}
use Rattle.ct_check.proofs.checker.Checker.statements.Given as goal

-- those before, and those that are left
abbrev pub invariant-loop-statement : goal.invariant-loop-statement
invariant-loop-statement l = Still l.items.items (all_checked statement l.self (drop l.statement-index l.statements)) (all_checked statement l.fn.self l.statements)
