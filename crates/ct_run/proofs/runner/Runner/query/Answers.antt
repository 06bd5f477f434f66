use Rattle.std.proofs.Common.{ap, ◌∙◌}
use Rattle.ic_behaviour.specs.State.{State}
use Rattle.ic_state.specs.Seen.{state_of}
use Rattle.ic_asking.specs.Asking.{answer_now}
use Rattle.ct_run.specs.Called.{came_of}
use Rattle.ct_run.specs.Statements.{Setting}
use Rattle.ct_run.proofs.runner.Runner.query.Goals as goal

pub returns : goal.returns
returns g c =
    let charge = c.args.self.now.charge in
    let opened = c.open-parts.ensures.state ∙ c.in_ok-listening.ensures in
    let same = c.in_ok-world.ensures ∙ (c.seal.ensures ∙ (c.in_ok-response.ensures.same ∙ opened)) in
    let answer = c.in_ok-response.ensures.response ∙ (ap (λ (r : Setting). answer_now r.charge.limit r.charge.price (state_of c.open-parts.result) c.args.ask) c.self.view_is ∙ ap (λ (s : State). answer_now charge.limit charge.price s c.args.ask) opened) in
    (same, c.came_of.ensures ∙ ap came_of answer)
