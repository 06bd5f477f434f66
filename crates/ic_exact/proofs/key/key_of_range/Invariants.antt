use Rattle.std.proofs.Common.{◌≡◌, ◌/◌, length}
use Rattle.ic_exact.specs.Key.{with_words}
use Rattle.ic_exact.proofs.key.key_of_range.Given as goal

abbrev pub invariant-loop-rest : goal.invariant-loop-rest
invariant-loop-rest l = with_words (length l.rest / 8) l.key l.rest ≡ with_words (length l.bytes / 8) 0 l.bytes

abbrev pub decreases-loop-rest : goal.decreases-loop-rest
decreases-loop-rest l = length l.rest
