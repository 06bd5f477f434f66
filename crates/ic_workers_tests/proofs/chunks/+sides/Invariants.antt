use Rattle.std.proofs.Common.{◌+◌, ◌*◌}
use Rattle.ic_workers_tests.proofs.chunks.+sides.Given as goal

abbrev pub decreases-handled_by_all : goal.decreases-handled_by_all
decreases-handled_by_all g l = 3 * l.share.workers

abbrev pub decreases-handle_in_slots : goal.decreases-handle_in_slots
decreases-handle_in_slots g l = 3 * l.others.workers + 2

abbrev pub decreases-handle_in_slots-join+arg3 : goal.decreases-handle_in_slots-join+arg3
decreases-handle_in_slots-join+arg3 g l = 3 * l.others.workers + 1
