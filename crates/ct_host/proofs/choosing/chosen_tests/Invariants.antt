use Rattle.std.proofs.Common.{◌≡◌, ◌++◌, drop}
use Rattle.ct_host.specs.Chosen.{chosen_tests}
use Rattle.ct_host.proofs.choosing.chosen_tests.Given as goal

-- those that were added, and those that are meant of the rest
abbrev pub invariant-loop-suite : goal.invariant-loop-suite
invariant-loop-suite l = l.chosen.items ++ chosen_tests l.choice (drop l.suite-index l.suites) ≡ chosen_tests l.choice l.suites
