use Rattle.std.proofs.Common.{length, sym, ap, ◌∙◌, arith}
use Rattle.std.proofs.lemmas.Result.{IfOk-weaker}
use Rattle.ic_behaviour.specs.State.{State}
use Rattle.ic_behaviour.specs.Steps.{step}
use Rattle.ic_mgmt_laws.specs.Managed.{managed_rules}
use Rattle.ic_queue_rounds.proofs.Picks.{is_met, pick_ends, past_end}
use Rattle.ic_queue_rounds.proofs.picking.deliver_at.Goals as goal

pub delivered-requires : goal.delivered-requires
delivered-requires c =
    let rest = c.open-rest.result.0 in
    let queues = c.open-rest.result.1 in
    record { next = (_, (_, is_met c.args.charge.limit c.args.charge.price rest queues c.open-rest.ensures.keeps c.args.place c.in-Some.message (sym c.take_at.ensures.message ∙ c.in-Some.is))) }

pub close-requires-clause-keeps : goal.close-requires-clause-keeps
close-requires-clause-keeps c =
    let rest = c.open-rest.result.0 in
    let queues = c.open-rest.result.1 in
    let found = sym c.take_at.ensures.message ∙ c.in-Some.is in
    let ends = pick_ends c.args.charge.limit c.args.charge.price rest queues c.open-rest.ensures.keeps c.args.place c.in-Some.message found
    c.in_ok-rest-in-Some.rest c.taken_apart-rest.result.0 c.take_at.new.self c.in_ok-queues-in-Some.queues c.taken_apart-rest.result.1
    (c.in_ok-rest-in-Some.ensures _ _ (is_met c.args.charge.limit c.args.charge.price rest queues c.open-rest.ensures.keeps c.args.place c.in-Some.message found))
    c.take_at.ensures.queues c.taken_apart-rest.ensures.rest c.taken_apart-rest.ensures.messages c.in_ok-queues-in-Some.ensures.messages in
    ends.keeps

pub returns-in_ok-queues-in-Some : goal.returns-in_ok-queues-in-Some
returns-in_ok-queues-in-Some c =
    let rest = c.open-rest.result.0 in
    let queues = c.open-rest.result.1 in
    let found = sym c.take_at.ensures.message ∙ c.in-Some.is in
    let ends = pick_ends c.args.charge.limit c.args.charge.price rest queues c.open-rest.ensures.keeps c.args.place c.in-Some.message found
    c.in_ok-rest-in-Some.rest c.taken_apart-rest.result.0 c.take_at.new.self c.in_ok-queues-in-Some.queues c.taken_apart-rest.result.1
    (c.in_ok-rest-in-Some.ensures _ _ (is_met c.args.charge.limit c.args.charge.price rest queues c.open-rest.ensures.keeps c.args.place c.in-Some.message found))
    c.take_at.ensures.queues c.taken_apart-rest.ensures.rest c.taken_apart-rest.ensures.messages c.in_ok-queues-in-Some.ensures.messages in
    IfOk-weaker c.close.result _ _
    (λ end is. is ∙ ends.state ∙ ap (λ (s : State). step (managed_rules c.args.charge.limit c.args.charge.price) s c.args.place) c.open-rest.ensures.state)
    c.close.ensures

pub seal-requires : goal.seal-requires
seal-requires c =
    let past = past_end c.open-rest.result.1.messages c.args.place (sym c.take_at.ensures.message ∙ c.in-None.is) in
    absurd (omega (arith, past, c.requires, ap (λ (s : State). length s.messages) c.open-rest.ensures.state))

pub returns-in-None : goal.returns-in-None
returns-in-None c =
    let past = past_end c.open-rest.result.1.messages c.args.place (sym c.take_at.ensures.message ∙ c.in-None.is) in
    absurd (omega (arith, past, c.requires, ap (λ (s : State). length s.messages) c.open-rest.ensures.state))
