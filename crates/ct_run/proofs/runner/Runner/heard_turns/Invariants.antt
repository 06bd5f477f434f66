use Rattle.std.proofs.Common.{drop}
use Rattle.ic_behaviour.specs.Steps.{along}
use Rattle.ic_behaviour.specs.Round.{turns}
use Rattle.ct_run.specs.Called.{rules_of}
use Rattle.ct_run.proofs.Hearings.{Turns}
use Rattle.ct_run.proofs.runner.Runner.heard_turns.Given as goal

-- the turns that are left lead to the end
abbrev pub invariant-loop-id : goal.invariant-loop-id
invariant-loop-id g l = Turns (rules_of l.self.charge) (along (rules_of l.self.charge) l.fn.world (turns (rules_of l.self.charge) l.fn.world l.ids)) l.world (drop l.id-index l.ids)
