use Rattle.ct_run.specs.Called.{most_rounds, rules_of}
use Rattle.ic_queue_rounds.proofs.Roundings.{Rounding}
use Rattle.ct_run.proofs.runner.Runner.heard_rounds.Given as goal

abbrev pub invariant-loop : goal.invariant-loop
invariant-loop g l = Rounding (rules_of l.self.charge) most_rounds l.counter l.fn.world l.world
