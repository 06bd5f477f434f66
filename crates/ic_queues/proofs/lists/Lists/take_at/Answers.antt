use Rattle.std.proofs.Common.{sym, ap, ◌∙◌}
use Rattle.ic_queues.specs.InLists.{queued_of}
use Rattle.ic_queues.proofs.Places.{IsPlaced, placed, not-placed}
use Rattle.ic_queues.proofs.lists.Lists.take_at.Goals as goal

there : (c : goal.After-take_number) → IsPlaced c.args.place c.in-Some.number c.args.self.now.messages.entries
there c = placed c.args.place c.in-Some.number c.args.self.now.messages.entries c.requires.ordered (sym c.number_at.ensures ∙ c.in-Some.is)

pub returns-in-Some-clause-queues : goal.returns-in-Some-clause-queues
returns-in-Some-clause-queues c =
    c.take_number.ensures.rest ∙ ap (λ l. record (queued_of c.args.self.now) { messages = l }) (c.take_number.ensures.messages ∙ (there c).left)

pub returns-in-Some-clause-message : goal.returns-in-Some-clause-message
returns-in-Some-clause-message c = c.take_number.ensures.message ∙ (there c).found ∙ sym (there c).there

pub returns-in-None-clause-queues : goal.returns-in-None-clause-queues
returns-in-None-clause-queues c =
    ap (λ l. record (queued_of c.args.self.now) { messages = l }) (sym (not-placed c.args.place c.args.self.now.messages.entries (sym c.number_at.ensures ∙ c.in-None.is)).1)

pub returns-in-None-clause-message : goal.returns-in-None-clause-message
returns-in-None-clause-message c = sym (not-placed c.args.place c.args.self.now.messages.entries (sym c.number_at.ensures ∙ c.in-None.is)).0
