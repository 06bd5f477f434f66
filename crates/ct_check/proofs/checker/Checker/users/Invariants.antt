use Rattle.std.proofs.Common.{drop}
use Rattle.ct_check.specs.Holds.{all_checked, user}
use Rattle.ct_check.proofs.Loops.{Still}
use Rattle.ct_check.proofs.checker.Checker.users.Given as goal

-- those before, and those that are left
abbrev pub invariant-loop-user : goal.invariant-loop-user
invariant-loop-user l = Still l.items.items (all_checked user l.self (drop l.user-index l.users)) (all_checked user l.fn.self l.users)
