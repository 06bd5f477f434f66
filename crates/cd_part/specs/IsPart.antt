-- The part of a type table that some types need. No standard has it.
use Rattle.std.specs.Prelude.{◌≡◌, ℕ, List, [], Option, Some, map, slice_get}
use Rattle.std.specs.Option.{option_map}
use Rattle.cd_types.specs.declared.entry.TyRef.{TyRef}
use Rattle.cd_types.specs.declared.entry.Entry.{Entry}
use Rattle.cd_part.specs.Places.{renamed, renamed_entry}
use Rattle.cd_part.specs.Meets.{Meets}

-- the entries at these numbers, with references by the places of these
abbrev pub entries_at : List Entry → List ℕ → List (Option Entry)
entries_at table met = map (λ number. option_map (renamed_entry met) (slice_get table number)) met

-- The part has the entries that are met from the types and no others, in the order of meeting, and
-- the types; each reference is by the place at which its entry was met.
pub record IsPart (table : List Entry) (types : List TyRef) (part : List Entry × List TyRef) : Type 0 where
  pub met : List ℕ
  pub order : Meets table types [] met
  pub entries : entries_at table met ≡ map (λ entry. Some entry) part.0
  pub references : part.1 ≡ map (renamed met) types
