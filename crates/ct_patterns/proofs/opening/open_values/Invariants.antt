use Rattle.std.proofs.Common.{◌≡◌, ◌≤◌, ◌++◌, length, drop}
use Rattle.cd_codec.specs.View.{views}
use Rattle.ct_patterns.specs.Views.{waiting}
use Rattle.ct_patterns.proofs.opening.open_values.Given as goal

-- those from the place on are added
abbrev pub invariant-loop-index : goal.invariant-loop-index
invariant-loop-index l = record { within : l.index ≤ length l.values; added : waiting l.next.items ≡ views (drop l.index l.values) ++ waiting l.fn.next.items }

abbrev pub decreases-loop-index : goal.decreases-loop-index
decreases-loop-index l = l.index
