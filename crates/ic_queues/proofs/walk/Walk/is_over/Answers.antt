use Rattle.std.proofs.Common.{ap, ◌∙◌}
use Rattle.std.specs.List.{list_all}
use Rattle.ic_queues.specs.Queued.{Walked, is_inside}
use Rattle.ic_queues.proofs.Walks.{over}
use Rattle.ic_queues.proofs.walk.Walk.is_over.Goals as goal

pub returns : goal.returns
returns c =
    c.is_empty.ensures
    ∙ over c.self.inside.lists.messages.entries c.self.inside.lists.waiting.entries c.self.inside.lists.outside c.self.inside.stay c.self.inside.lists.messages.next c.self.inside.place c.self.invariant
    ∙ ap (λ (w : Walked). list_all (is_inside w.canisters) w.todo) c.self.view_is
