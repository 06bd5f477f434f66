use Rattle.std.proofs.Common.{◌≡◌, vec_len}
use Rattle.ic_tickets_tests.proofs.tests.two_threads_draw_all.Given as goal

abbrev pub invariant-loop-number : goal.invariant-loop-number
invariant-loop-number g l = vec_len l.items ≡ l.number
