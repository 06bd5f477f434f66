use Rattle.std.proofs.Common.{sym, ap, ◌∙◌}
use Rattle.ic_behaviour.specs.State.{State}
use Rattle.ic_state.specs.Seen.{state_of}
use Rattle.ic_asking.specs.Asking.{accepts_now}
use Rattle.ct_run.specs.Called.{with_call}
use Rattle.ct_run.specs.Statements.{Setting}
use Rattle.ct_run.proofs.Calls.{submit_accepted, submit_refused}
use Rattle.ct_run.proofs.runner.Runner.submit.Goals as goal

pub returns-in_ok-world-2 : goal.returns-in_ok-world-2
returns-in_ok-world-2 g c =
    let charge = c.args.self.now.charge in
    let opened = c.open-parts.ensures.state ∙ c.in_ok-listening.ensures in
    let same = c.in_ok-world.ensures ∙ (c.seal.ensures ∙ (c.in_ok-is_accepted.ensures.same ∙ opened)) in
    let answer = c.in_ok-is_accepted.ensures.accepted ∙ (ap (λ (r : Setting). accepts_now r.charge.limit r.charge.price (state_of c.open-parts.result) c.args.ask) c.self.view_is ∙ ap (λ (s : State). accepts_now charge.limit charge.price s c.args.ask) opened) in
    submit_accepted charge c.args.world c.args.ask c.in_ok-world-2.world c.calls_made-number.result (sym answer ∙ c.if-branch.true)
    (c.in_ok-world-2.ensures ∙ ap (λ (s : State). with_call s c.args.ask) same) c.calls_made-number.ensures

pub returns-else-branch : goal.returns-else-branch
returns-else-branch g c =
    let charge = c.args.self.now.charge in
    let opened = c.open-parts.ensures.state ∙ c.in_ok-listening.ensures in
    let same = c.in_ok-world.ensures ∙ (c.seal.ensures ∙ (c.in_ok-is_accepted.ensures.same ∙ opened)) in
    let answer = c.in_ok-is_accepted.ensures.accepted ∙ (ap (λ (r : Setting). accepts_now r.charge.limit r.charge.price (state_of c.open-parts.result) c.args.ask) c.self.view_is ∙ ap (λ (s : State). accepts_now charge.limit charge.price s c.args.ask) opened) in
    submit_refused charge c.args.world c.args.ask c.in_ok-world.world (sym answer ∙ c.if-branch.false) same
