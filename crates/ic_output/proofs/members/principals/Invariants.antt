use Rattle.std.proofs.Common.{◌≡◌, map, take}
use Rattle.serde_json.specs.View.{view}
use Rattle.ic_output.specs.StateLine.{principal_data}
use Rattle.ic_output.proofs.members.principals.Given as goal

abbrev pub invariant-loop-one : goal.invariant-loop-one
invariant-loop-one l = map view l.values.items ≡ map principal_data (take l.one-index l.principals)
