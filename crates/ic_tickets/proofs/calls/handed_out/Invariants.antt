use Rattle.std.proofs.Common.{◌≡◌}
use Rattle.std.specs.Prelude.{vec_capacity}
use Rattle.ic_tickets.proofs.Opens.{Opens}
use Rattle.ic_tickets.proofs.calls.handed_out.Given as goal

abbrev pub invariant-loop-made : goal.invariant-loop-made
invariant-loop-made g l = record {
  opens : Opens l.fn.table.shared.table_id l.fn.table.shared.key.items.value.items l.fn.workers l.made l.passes.items l.seat.table_id l.seat.me;
  room : vec_capacity l.passes ≡ l.fn.workers;
}
