use Rattle.std.proofs.Common.{◌≡◌, ◌-◌}
use Rattle.ic_base.specs.Reader.{many_at}
use Rattle.ic_base.proofs.Loops.{with_front}
use Rattle.ic_base.proofs.item.many.Given as goal

abbrev pub invariant-loop : goal.invariant-loop
invariant-loop g l = with_front l.items.items (many_at (g.T.Item.reading l.context) (l.count - l.counter) l.rest) ≡ many_at (g.T.Item.reading l.context) l.count l.bytes
