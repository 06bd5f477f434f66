use Rattle.std.proofs.Common.{◌∙◌}
use Rattle.ic_queue_rounds.proofs.Ends.{keys_rise, queued_keeps, queued_state}
use Rattle.ic_queue_rounds.proofs.queued.QueuedWorld.new.Goals as goal

pub new-requires : goal.new-requires
new-requires c = record {
  rising = keys_rise c.open.result c.taken_apart-rest.result.0 c.in_ok-canisters.canisters.items c.open.ensures.keeps c.taken_apart-rest.ensures.rest c.in_ok-canisters.ensures;
}

pub invariant_of-result : goal.invariant_of-result
invariant_of-result c =
    queued_keeps c.open.result c.taken_apart-rest.result.0 c.in_ok-canisters.canisters.items c.open.ensures.keeps c.taken_apart-rest.ensures.rest c.in_ok-canisters.ensures
    c.in_ok-new.field-0 c.in_ok-queues.queues c.taken_apart-rest.result.1 c.in_ok-new.ensures c.taken_apart-rest.ensures.messages c.in_ok-queues.ensures.messages c.in_ok-queues.ensures.canisters

pub returns : goal.returns
returns c =
    queued_state c.open.result c.taken_apart-rest.result.0 c.in_ok-canisters.canisters.items c.open.ensures.keeps c.taken_apart-rest.ensures.rest c.in_ok-canisters.ensures
    c.in_ok-new.field-0 c.in_ok-queues.queues c.taken_apart-rest.result.1 c.in_ok-new.ensures c.taken_apart-rest.ensures.messages c.in_ok-queues.ensures.messages c.in_ok-queues.ensures.canisters
    ∙ c.open.ensures.state
