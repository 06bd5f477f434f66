use Rattle.std.proofs.Common.{◌∙◌}
use Rattle.ic_queue_rounds.proofs.Ends.{listed_keeps, listed_state}
use Rattle.ic_queue_rounds.proofs.queued.QueuedWorld.into_world.Goals as goal

pub seal-requires : goal.seal-requires
seal-requires c = listed_keeps c.self.inside.rest c.in_ok-parts.parts c.self.inside.queues c.in_ok-messages.messages c.self.invariant c.in_ok-messages.ensures c.in_ok-parts.ensures

pub returns : goal.returns
returns c =
    c.seal.ensures
    ∙ listed_state c.self.inside.rest c.in_ok-parts.parts c.self.inside.queues c.in_ok-messages.messages c.self.invariant c.in_ok-messages.ensures c.in_ok-parts.ensures
    ∙ c.self.view_is
