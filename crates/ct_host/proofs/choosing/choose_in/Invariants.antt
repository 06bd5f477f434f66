use Rattle.std.proofs.Common.{◌≡◌, ◌++◌, drop}
use Rattle.ct_host.specs.Chosen.{chosen_in}
use Rattle.ct_host.proofs.choosing.choose_in.Given as goal

-- those that were added, and those that are meant of the rest
abbrev pub invariant-loop-test : goal.invariant-loop-test
invariant-loop-test l = l.chosen.items ++ chosen_in l.choice l.suite (drop l.test-index l.test-items) ≡ l.fn.chosen.items ++ chosen_in l.choice l.suite l.suite.checked.tests
