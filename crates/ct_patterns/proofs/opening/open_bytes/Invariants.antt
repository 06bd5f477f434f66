use Rattle.std.proofs.Common.{◌≡◌, ◌≤◌, ◌++◌, length, drop, map}
use Rattle.ct_patterns.specs.Views.{byte, waiting}
use Rattle.ct_patterns.proofs.opening.open_bytes.Given as goal

-- those from the place on are added
abbrev pub invariant-loop-index : goal.invariant-loop-index
invariant-loop-index l = record { within : l.index ≤ length l.bytes; added : waiting l.next.items ≡ map byte (drop l.index l.bytes) ++ waiting l.fn.next.items }

abbrev pub decreases-loop-index : goal.decreases-loop-index
decreases-loop-index l = l.index
