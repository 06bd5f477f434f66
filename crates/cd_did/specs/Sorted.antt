-- Fields in the order of a type table.
use Rattle.std.specs.Prelude.{◌≡◌, ℕ, ◌^◌, Bool, true, nat_lt, List, map}
use Rattle.std.specs.List.Sorted.{IsPermutation}
use Rattle.ic_base.specs.declared.read_error.ReadError.{ReadError}
use Rattle.ic_base.specs.declared.read_error.ReadError.TheVariants.{NoMemory, Refused}
use Rattle.cd_types.specs.declared.entry.TyRef.{TyRef}
use Rattle.cd_types.specs.declared.entry.Entry.{Entry}
use Rattle.cd_types.specs.declared.entry.Entry.TheVariants as entries
use Rattle.cd_types.specs.IsOrdered.{ids_rise_from}
use Rattle.cd_grammar.specs.declared.written.Part.{Part}
use Rattle.cd_did.specs.declared.sorted.Rows.{Rows}
use Rattle.cd_did.specs.declared.sorted.Rows.TheVariants.{Fields, Cases}
use Rattle.cd_did.specs.Faults.{Definitions}
use Rattle.cd_did.specs.Targets.{target}

-- what holds where nothing is made for another reason than memory
abbrev pub Refuses : ReadError → Type 0 → Type 0
Refuses NoMemory P = Unit {0}
Refuses Refused P = P

-- a label with the reference that stands for its type
abbrev pub row : {L : Type 0} → Definitions → List ℕ → L × Part → L × TyRef
row definitions ends f = (f.0, target definitions ends f.1)

abbrev pub fits : ℕ → Bool
fits id = nat_lt id (2 ^ 32)

-- the same rows, with ids that rise
abbrev pub AreSorted : List (ℕ × TyRef) → List (ℕ × TyRef) → Type 0
AreSorted rows sorted = IsPermutation rows sorted × (ids_rise_from 0 (map (λ f. f.0) sorted) ≡ true)

-- the entry of such rows
abbrev pub rows_made : Rows → List (ℕ × TyRef) → Entry
rows_made Fields rows = entries.Rec rows
rows_made Cases rows = entries.Var rows
