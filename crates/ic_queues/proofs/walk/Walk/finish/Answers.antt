use Rattle.std.proofs.Common.{ap, ◌∙◌}
use Rattle.std.specs.List.{list_all}
use Rattle.ic_queues.specs.Queued.{Walked, is_inside}
use Rattle.ic_queues.proofs.Walks.{ends, finishes}
use Rattle.ic_queues.proofs.walk.Walk.finish.Goals as goal

pub invariant_of-result : goal.invariant_of-result
invariant_of-result c =
    let l = c.self.inside.lists in
    ends l.messages.entries l.waiting.entries l.outside c.self.inside.stay l.messages.next c.self.inside.place c.self.invariant
    (ap (λ (w : Walked). list_all (is_inside w.canisters) w.todo) c.self.view_is ∙ c.requires.over)

pub returns : goal.returns
returns c =
    let l = c.self.inside.lists in
    finishes l.messages.entries l.waiting.entries l.outside c.self.inside.stay l.messages.next c.self.inside.place c.self.invariant c.args.self c.self.view_is
