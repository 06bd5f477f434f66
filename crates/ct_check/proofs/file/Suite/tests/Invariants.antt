use Rattle.std.proofs.Common.{drop}
use Rattle.ct_check.specs.Holds.{all_checked, test}
use Rattle.ct_check.proofs.Loops.{Still}
use Rattle.ct_check.proofs.file.Suite.tests.Given as goal

-- those before, and those that are left
abbrev pub invariant-loop-test : goal.invariant-loop-test
invariant-loop-test l = Still l.items.items (all_checked test l.self (drop l.test-index l.tests)) (all_checked test l.fn.self l.tests)
