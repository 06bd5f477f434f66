-- The order in which the entries of a type table are met. No standard has it.
use Rattle.std.specs.Prelude.{◌≡◌, ℕ, suc, ◌+◌, List, [], ◌∷◌, ◌++◌, Some, None, length, slice_get, is_some, if◌then◌else◌}
use Rattle.cd_types.specs.declared.primitive.Primitive.{Primitive}
use Rattle.cd_types.specs.declared.entry.TyRef.{TyRef}
use Rattle.cd_types.specs.declared.entry.TyRef.TheVariants.{Prim, Index}
use Rattle.cd_types.specs.declared.entry.Entry.{Entry}
use Rattle.cd_types.specs.References.{references}
use Rattle.cd_part.specs.Places.{place_of}

-- From the types that are to be met: an entry that was not met is met, then its parts from the left,
-- then what follows. `before` were met before, and `after` in the end.
pub data Meets (table : List Entry) : List TyRef → List ℕ → List ℕ → Type 0 where
  done : {met : List ℕ} → Meets table [] met met
  primitive : {p : Primitive} {types : List TyRef} {before after : List ℕ} → Meets table types before after → Meets table (Prim p ∷ types) before after
  again : {entry : ℕ} {types : List TyRef} {before after : List ℕ} (place : ℕ) → place_of before entry ≡ Some place → Meets table types before after → Meets table (Index entry ∷ types) before after
  first : {number : ℕ} {types : List TyRef} {before after : List ℕ} (entry : Entry) → place_of before number ≡ None → slice_get table number ≡ Some entry
      → Meets table (references entry ++ types) (before ++ number ∷ []) after → Meets table (Index number ∷ types) before after

-- how many parts an entry has
abbrev pub part_count : Entry → ℕ
part_count entry = length (references entry)

-- what the entries that were not met measure together, the first of which has this number
abbrev pub unmet : (Entry → ℕ) → List ℕ → ℕ → List Entry → ℕ
unmet measure met number [] = 0
unmet measure met number (entry ∷ entries) = (if is_some (place_of met number) then 0 else measure entry) + unmet measure met (suc number) entries
