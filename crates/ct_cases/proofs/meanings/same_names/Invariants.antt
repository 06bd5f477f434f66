use Rattle.std.proofs.Common.{◌≡◌, ◌≤◌, length, drop}
use Rattle.ct_cases.proofs.meanings.same_names.Given as goal

abbrev pub invariant-loop-left : goal.invariant-loop-left
invariant-loop-left l = (l.left ≤ length l.names) × (length l.names ≡ length l.others) × (drop l.left l.names ≡ drop l.left l.others)

abbrev pub decreases-loop-left : goal.decreases-loop-left
decreases-loop-left l = l.left
