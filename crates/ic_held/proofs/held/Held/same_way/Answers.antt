use Rattle.std.proofs.Common.{sym, ◌∙◌}
use Rattle.ic_held.proofs.Tags.{other-way}
use Rattle.ic_held.proofs.held.Held.same_way.Goals as goal

pub returns-then-tag : goal.returns-then-tag
returns-then-tag c = other-way c.args.self.now c.args.other.now (λ same. c.if-tag.true (c.tag.ensures ∙ same ∙ sym c.tag-2.ensures))
