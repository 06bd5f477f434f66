-- A message leaves the list. No standard has this.
use Rattle.std.specs.Prelude.{ℕ}
use Rattle.std.specs.List.{remove}
use Rattle.ic_state.specs.declared.world.Parts.{Parts}

abbrev pub left_by : Parts → (place : ℕ) → Parts
left_by w place = record w { messages = remove w.messages place }
