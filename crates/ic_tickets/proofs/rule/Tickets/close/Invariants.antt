use Rattle.std.proofs.Common.{length}
use Rattle.ic_tickets.proofs.Closes.{Closes}
use Rattle.ic_tickets.proofs.rule.Tickets.close.Given as goal

abbrev pub invariant-loop-seat : goal.invariant-loop-seat
invariant-loop-seat g l = Closes l.fn.self l.fn.passes.items l.passes.items l.kept.table_id l.kept.me

abbrev pub decreases-loop-seat : goal.decreases-loop-seat
decreases-loop-seat g l = length l.passes.items
