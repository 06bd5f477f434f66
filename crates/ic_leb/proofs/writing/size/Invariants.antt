use Rattle.std.proofs.Common.{◌+◌, ◌≡◌, suc, length}
use Rattle.ic_leb.specs.Spelling.{seven_bits_each}
use Rattle.ic_leb.proofs.writing.size.Given as goal

abbrev pub invariant-loop-left : goal.invariant-loop-left
invariant-loop-left l =
    l.size + length (seven_bits_each l.end l.negative (suc l.left) l.left) ≡ length (seven_bits_each l.end l.negative (suc l.n) l.n) + 1

abbrev pub decreases-loop-left : goal.decreases-loop-left
decreases-loop-left l = l.left
