use Rattle.std.proofs.Common.{ap, ◌∙◌}
use Rattle.std.proofs.lemmas.Result.{IfOk-weaker}
use Rattle.ic_behaviour.specs.State.{State}
use Rattle.ic_behaviour.specs.Steps.{along}
use Rattle.ic_behaviour.specs.Round.{second_phase}
use Rattle.ic_mgmt_laws.specs.Managed.{managed_rules}
use Rattle.ic_queue_rounds.specs.InQueues.{with_messages}
use Rattle.ic_queue_rounds.proofs.Passes.{begins, phase_ends}
use Rattle.ic_queue_rounds.proofs.second.outside_turns.Goals as goal

pub pass_all-requires : goal.pass_all-requires
pass_all-requires c =
    let rest = c.open-rest.result.0 in
    let queues = c.open-rest.result.1 in
    record { passing = record { start = with_messages rest queues.messages; passing = begins c.args.charge.limit rest queues c.walk-walk.result c.open-rest.ensures.keeps c.walk-walk.ensures } }

pub finish-requires-clause-keeps : goal.finish-requires-clause-keeps
finish-requires-clause-keeps c =
    let end = c.in_ok-walk.ensures.passing _ (begins c.args.charge.limit c.open-rest.result.0 c.open-rest.result.1 c.walk-walk.result c.open-rest.ensures.keeps c.walk-walk.ensures) in
    end.reaches.keeps

pub finish-requires-clause-canisters : goal.finish-requires-clause-canisters
finish-requires-clause-canisters c =
    let end = c.in_ok-walk.ensures.passing _ (begins c.args.charge.limit c.open-rest.result.0 c.open-rest.result.1 c.walk-walk.result c.open-rest.ensures.keeps c.walk-walk.ensures) in
    end.canisters

pub returns : goal.returns
returns c =
    let rest = c.open-rest.result.0 in
    let queues = c.open-rest.result.1 in
    let end = c.in_ok-walk.ensures.passing _ (begins c.args.charge.limit rest queues c.walk-walk.result c.open-rest.ensures.keeps c.walk-walk.ensures) in
    IfOk-weaker c.finish.result _ _
    (λ w is price. is ∙ phase_ends c.args.charge.limit price (with_messages rest queues.messages) c.in_ok-walk.field-0.rest c.in_ok-walk.field-0.walk end c.in_ok-walk.ensures.over
    ∙ ap (λ (t : State). along (managed_rules c.args.charge.limit price) t (second_phase (managed_rules c.args.charge.limit price) t)) c.open-rest.ensures.state)
    c.finish.ensures
