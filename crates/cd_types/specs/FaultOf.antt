-- Candid specification, "Type Table": why entries are no table, by the rules of IsTable in turn
use Rattle.std.specs.Prelude.{ℕ, suc, List, [], ◌∷◌, length, Option, Some, None, nat_lt, if◌then◌else◌}
use Rattle.std.specs.Option.{option_or}
use Rattle.cd_types.specs.declared.entry.Entry.{Entry}
use Rattle.cd_types.specs.declared.table.TableFault.{TableFault}
use Rattle.cd_types.specs.declared.table.TableFault.TheVariants.{TooMany, BadIndex, Order, NotFunc}
use Rattle.cd_types.specs.IsOrdered.{is_ordered}
use Rattle.cd_types.specs.IsTable.{names_inside, has_funcs}

-- the first fault of the entry at this place
abbrev pub entry_fault : List Entry → ℕ → Entry → Option TableFault
entry_fault entries place entry =
    if names_inside (length entries) entry then (if is_ordered entry then (if has_funcs entries entry then None else Some (NotFunc place)) else Some (Order place)) else Some (BadIndex place)

-- the fault of the least faulty of these entries, the first of which is at this place
abbrev pub least_fault : List Entry → ℕ → List Entry → Option TableFault
least_fault entries place [] = None
least_fault entries place (entry ∷ more) = option_or (entry_fault entries place entry) (least_fault entries (suc place) more)

-- why entries are no type table, if they are none
abbrev pub fault_of : List Entry → Option TableFault
fault_of entries = if nat_lt 10000 (length entries) then Some TooMany else least_fault entries 0 entries
