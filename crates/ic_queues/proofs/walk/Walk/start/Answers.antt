use Rattle.ic_queues.proofs.Walks.{starts, starts_view}
use Rattle.ic_queues.proofs.walk.Walk.start.Goals as goal

pub invariant_of-result : goal.invariant_of-result
invariant_of-result c = starts c.args.lists.messages.entries c.args.lists.waiting.entries c.args.lists.outside c.new.result c.args.lists.messages.next c.requires c.new.ensures

pub returns : goal.returns
returns c = starts_view c.args.lists.messages.entries c.args.lists.waiting.entries
