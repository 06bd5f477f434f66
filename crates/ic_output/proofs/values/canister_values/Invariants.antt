use Rattle.std.proofs.Common.{◌≡◌, ◌++◌, map}
use Rattle.serde_json.specs.View.{view}
use Rattle.ic_state.specs.Seen.{entry_of}
use Rattle.ic_output.specs.StateLine.{canister_data}
use Rattle.ic_output.proofs.values.canister_values.Given as goal

-- the values that were made, and those of the canisters that are left
abbrev pub invariant-loop-id : goal.invariant-loop-id
invariant-loop-id l =
    map view l.values.items ++ map canister_data (map entry_of l.id-iterator) ≡ map canister_data (map entry_of l.canisters.entries)
