use Rattle.std.proofs.Common.{◌≡◌, drop}
use Rattle.ic_exact.specs.Ranges.{bytes_of}
use Rattle.ic_keep.specs.Key.{with_memory}
use Rattle.ic_keep.proofs.key.with_memory.Given as goal

abbrev pub invariant-loop-number : goal.invariant-loop-number
invariant-loop-number l = with_memory l.key (bytes_of l.ranges (drop l.number-index l.numbers)) ≡ with_memory l.fn.key (bytes_of l.ranges l.numbers)
