-- The references that stand for the types of a file, where its definitions lead to these ends.
use Rattle.std.specs.Prelude.{ℕ, ◌^◌, nat_lt, if◌then◌else◌, List, Option, Some, None, slice_get}
use Rattle.cd_types.specs.declared.primitive.Primitive.TheVariants.{Null}
use Rattle.cd_types.specs.declared.entry.TyRef.{TyRef}
use Rattle.cd_types.specs.declared.entry.TyRef.TheVariants as refs
use Rattle.cd_grammar.specs.declared.written.Part.{Part}
use Rattle.cd_grammar.specs.declared.written.Part.TheVariants.{Prim, Name, Place}
use Rattle.cd_did.specs.Faults.{Definitions}
use Rattle.cd_did.specs.Rings.{place_from, jump_from}

abbrev pub row_or : Part → Option (List ℕ × Part) → Part
row_or part None = part
row_or part (Some d) = d.1

abbrev pub found_from : Definitions → List ℕ → Part → Option ℕ → Part
found_from definitions ends part None = part
found_from definitions ends part (Some place) = row_or part (slice_get definitions (jump_from ends place))

-- the end of the definitions that a name leads to; another part is its own
abbrev pub found_at : Definitions → List ℕ → Part → Part
found_at definitions ends (Name name) = found_from definitions ends (Name name) (place_from definitions 0 name)
found_at definitions ends part = part

-- the reference to a place; null past 2^32, where no table has one
abbrev pub place_ref : ℕ → TyRef
place_ref place = if nat_lt place (2 ^ 32) then refs.Index place else refs.Prim Null

-- the reference to a part that is no name
abbrev pub ref_of : Part → TyRef
ref_of (Prim p) = refs.Prim p
ref_of (Place place) = place_ref place
ref_of _ = refs.Prim Null

abbrev pub target : Definitions → List ℕ → Part → TyRef
target definitions ends part = ref_of (found_at definitions ends part)
