use Rattle.std.proofs.Common.{◌≡◌, ◌++◌, length}
use Rattle.ic_rounds.proofs.taken.put_before.Given as goal

abbrev pub invariant-loop-message : goal.invariant-loop-message
invariant-loop-message l = l.front.items ++ l.back.items ≡ l.fn.front.items ++ l.initial.back.items

abbrev pub decreases-loop-message : goal.decreases-loop-message
decreases-loop-message l = length l.front.items
