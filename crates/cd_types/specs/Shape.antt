-- Candid specification, "Binary Format" (I): what a reference of a type table stands for
use Rattle.std.specs.Prelude.{List, Option, Some, None, slice_get}
use Rattle.cd_types.specs.declared.primitive.Primitive.{Primitive}
use Rattle.cd_types.specs.declared.entry.TyRef.{TyRef}
use Rattle.cd_types.specs.declared.entry.TyRef.TheVariants.{Prim, Index}
use Rattle.cd_types.specs.declared.entry.Entry.{Entry}

-- what a reference stands for: a primitive type, an entry of its table, or nothing
pub data Shape : Type 0 where
  primitive : Primitive → Shape
  compound : Entry → Shape
  dangling : Shape

-- the shape of an entry that was looked up
abbrev pub entry_shape : Option Entry → Shape
entry_shape None = dangling
entry_shape (Some entry) = compound entry

-- the shape of a reference into the table
abbrev pub shape : List Entry → TyRef → Shape
shape table (Prim p) = primitive p
shape table (Index i) = entry_shape (slice_get table i)
