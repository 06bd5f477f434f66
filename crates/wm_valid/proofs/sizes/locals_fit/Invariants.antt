use Rattle.std.proofs.Common.{◌≡◌, ◌+◌, take}
use Rattle.std.specs.Prelude.{sum_by}
use Rattle.wm_valid.proofs.sizes.locals_fit.Given as goal

-- what is left, and the locals so far
abbrev pub invariant-loop-run : goal.invariant-loop-run
invariant-loop-run l = l.left + sum_by (λ r. r.count) (take l.run-index l.runs) ≡ l.room
