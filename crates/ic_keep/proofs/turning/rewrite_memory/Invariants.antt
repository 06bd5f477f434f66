use Rattle.std.proofs.Common.{◌≡◌}
use Rattle.ic_keep.proofs.Turns.{half}
use Rattle.ic_keep.proofs.turning.rewrite_memory.Given as goal

-- the ranges before this one are the new ones
abbrev pub invariant-loop-i : goal.invariant-loop-i
invariant-loop-i l = (l.store.lists ≡ record l.fn.store.lists { memory = half l.ranges l.from l.to l.i }) × (l.store.begun ≡ l.fn.store.begun)
