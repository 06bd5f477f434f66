use Rattle.std.proofs.Common.{◌≡◌, map, take}
use Rattle.serde_json.specs.View.{view}
use Rattle.ic_output.specs.StateLine.{decimal_data}
use Rattle.ic_output.proofs.members.decimals.Given as goal

abbrev pub invariant-loop-number : goal.invariant-loop-number
invariant-loop-number l = map view l.values.items ≡ map decimal_data (take l.number-index l.numbers)
