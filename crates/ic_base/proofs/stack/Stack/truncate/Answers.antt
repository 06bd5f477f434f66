use Rattle.ic_base.proofs.Reversed.{reverse-take}
use Rattle.ic_base.proofs.stack.Stack.truncate.Goals as goal

pub returns : goal.returns
returns g c = rw (c.truncate.ensures.items, ← c.self.view_is) (reverse-take c.args.height c.self.inside.items.items)
