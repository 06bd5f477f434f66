use Rattle.std.proofs.Common.{◌≡◌}
use Rattle.ct_run.proofs.hearing.listen_to.Given as goal

abbrev pub invariant-loop-id : goal.invariant-loop-id
invariant-loop-id l = l.world ≡ l.fn.world
