use Rattle.std.proofs.Common.{drop, ap, ◌∙◌}
use Rattle.ic_behaviour.specs.Steps.{step}
use Rattle.ct_check.proofs.Loops.{there, past}
use Rattle.ct_run.specs.Called.{rules_of}
use Rattle.ct_run.proofs.Hearings.{turn_more, turns_end}
use Rattle.ct_run.proofs.runner.Runner.heard_turns.Goals as goal

pub loop-id-preserved : goal.loop-id-preserved
loop-id-preserved g c =
    let ids = c.args.ids.now in
    let rules = rules_of c.args.self.now.charge in
    let split = there ids c.loop-id.id-index c.id-item.result c.loop-id-test.true c.id-item.is in
    let is = c.in_ok-world.ensures ∙ ap (step rules c.loop-id.world) c.first_place-place.ensures in
    turn_more rules _ c.loop-id.world c.in_ok-world.world (drop c.loop-id.id-index ids) _ c.id-item.result split is c.loop-id.invariant

pub returns : goal.returns
returns g c =
    let ids = c.args.ids.now in
    turns_end (rules_of c.args.self.now.charge) _ c.loop-id.world (drop c.loop-id.id-index ids) (past ids c.loop-id.id-index c.loop-id-test.false) c.loop-id.invariant
