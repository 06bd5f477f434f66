use Rattle.std.proofs.Common.{ℕ, sym, subst}
use Rattle.ic_queues.specs.Lines.{IsQueued}
use Rattle.ic_queues.proofs.Queueing.{PopEnds, pop_ends}
use Rattle.ic_queues.proofs.lists.Lists.pop.Goals as goal

ends : (c : goal.After-taken)
    → PopEnds c.args.self.now.messages.entries c.args.self.now.waiting.entries c.args.self.now.outside c.args.self.now.messages.next c.args.key.now c.taken.result c.taken.new.messages.entries c.pop_number-number.new.waiting.entries
ends c =
    pop_ends c.args.self.now.messages.entries c.args.self.now.waiting.entries c.args.self.now.outside c.args.self.now.messages.next c.args.key.now c.pop_number-number.result
    c.taken.result c.taken.new.messages.entries c.pop_number-number.new.waiting.entries c.requires
    c.pop_number-number.ensures.number c.pop_number-number.ensures.waiting c.taken.ensures.messages c.taken.ensures.message

pub returns-clause-keeps : goal.returns-clause-keeps
returns-clause-keeps c =
    subst (λ (n : ℕ). IsQueued c.taken.new.messages.entries c.pop_number-number.new.waiting.entries c.args.self.now.outside n) (sym c.taken.ensures.next) (ends c).queued

pub returns-clause-queues : goal.returns-clause-queues
returns-clause-queues c = (ends c).queues

pub returns-clause-message : goal.returns-clause-message
returns-clause-message c = (ends c).message
