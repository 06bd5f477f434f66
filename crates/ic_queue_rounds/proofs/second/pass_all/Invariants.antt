use Rattle.std.proofs.Common.{length}
use Rattle.ic_state.specs.declared.world.Parts.{Parts}
use Rattle.ic_queue_rounds.specs.Passing.{Passing}
use Rattle.ic_queue_rounds.proofs.second.pass_all.Given as goal

abbrev pub invariant-loop-alloc : goal.invariant-loop-alloc
invariant-loop-alloc l = (start : Parts) → Passing l.limit start l.fn.walk l.fn.rest → Passing l.limit start l.walk l.rest

abbrev pub decreases-loop-alloc : goal.decreases-loop-alloc
decreases-loop-alloc l = length l.walk.todo
