use Rattle.std.proofs.Common.{◌≡◌, List, subst, option_map, ◌∙◌}
use Rattle.ct_outcomes.specs.declared.named.Named.{Named}
use Rattle.ct_run.specs.Statements.{IsMadeBy}
use Rattle.ct_run.proofs.Steps.{creation_steps}
use Rattle.ct_run.proofs.runner.Runner.created.Goals as goal

pub returns : goal.returns
returns g c =
    let same : c.deref.result.now ≡ c.args.names.now = c.deref.ensures.value ∙ c.names.view_is in
    let Made = λ (names : List Named). IsMadeBy c.args.self.now c.args.world names c.args.by c.args.creation.now c.in_ok-world.world c.in_ok-world.made c.in_ok-world.came in
    creation_steps c.args.self.now c.args.world c.args.names.now c.args.by c.args.creation.now c.args.name.now c.in_ok-world.world c.in_ok-world.made c.in_ok-world.came c.bound.new.names (option_map (λ u. u.came) c.in_ok-unmet.unmet) (subst Made same c.in_ok-world.ensures) c.in_ok-unmet.ensures
