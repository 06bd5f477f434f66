use Rattle.std.proofs.Common.{◌≡◌, ◌*◌, take}
use Rattle.ic_exact.specs.Ranges.{AreNumbers, Extends, bytes_of}
use Rattle.ic_exact.proofs.ranges.Ranges.keep.Given as goal

abbrev pub invariant-loop-i : goal.invariant-loop-i
invariant-loop-i l = Extends l.fn.self l.self × AreNumbers l.self l.numbers.items × (bytes_of l.self l.numbers.items ≡ take (4096 * l.i) l.bytes)
