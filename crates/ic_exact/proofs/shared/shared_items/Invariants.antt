use Rattle.std.proofs.Common.{◌≡◌, take}
use Rattle.ic_exact.proofs.shared.shared_items.Given as goal

abbrev pub invariant-loop-value : goal.invariant-loop-value
invariant-loop-value g l = l.places.items ≡ take l.value-index l.values
