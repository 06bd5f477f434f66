use Rattle.std.proofs.Common.{◌≡◌, take}
use Rattle.ic_exact.proofs.shared.unshared.Given as goal

abbrev pub invariant-loop-place : goal.invariant-loop-place
invariant-loop-place g l = l.values.items ≡ take l.place-index l.places
