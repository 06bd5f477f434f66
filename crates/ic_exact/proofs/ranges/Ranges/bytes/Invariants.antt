use Rattle.std.proofs.Common.{◌≡◌, take}
use Rattle.ic_exact.specs.Ranges.{bytes_of}
use Rattle.ic_exact.proofs.ranges.Ranges.bytes.Given as goal

abbrev pub invariant-loop-number : goal.invariant-loop-number
invariant-loop-number l = l.bytes.items ≡ bytes_of l.self (take l.number-index l.numbers)
