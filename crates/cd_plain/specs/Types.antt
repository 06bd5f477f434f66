-- The types of the parts of a value, by the shape of its type.
use Rattle.std.specs.Prelude.{ℕ, List, [], Option, Some, None, slice_get}
use Rattle.cd_types.specs.declared.primitive.Primitive.TheVariants.{Null}
use Rattle.cd_types.specs.declared.entry.TyRef.{TyRef}
use Rattle.cd_types.specs.declared.entry.TyRef.TheVariants.{Prim}
use Rattle.cd_types.specs.declared.entry.Entry.TheVariants.{Opt, Seq, Rec, Var}
use Rattle.cd_types.specs.Shape.{Shape, compound}

-- the type of the value within an opt; null where the type is none
abbrev pub inner_of : Shape → TyRef
inner_of (compound (Opt inner)) = inner
inner_of _ = Prim Null

-- the type of the values of a vec; null where the type is none
abbrev pub item_of : Shape → TyRef
item_of (compound (Seq item)) = item
item_of _ = Prim Null

-- the fields of a record, or the cases of a variant; none where the type is neither
abbrev pub fields_of : Shape → List (ℕ × TyRef)
fields_of (compound (Rec fields)) = fields
fields_of (compound (Var cases)) = cases
fields_of _ = []

-- the field at a place; id 0 and null where there is none
abbrev pub field_or : Option (ℕ × TyRef) → ℕ × TyRef
field_or None = (0, Prim Null)
field_or (Some field) = field

abbrev pub nth_field : List (ℕ × TyRef) → ℕ → ℕ × TyRef
nth_field fields place = field_or (slice_get fields place)

-- the type at a place; null where there is none
abbrev pub type_or : Option TyRef → TyRef
type_or None = Prim Null
type_or (Some type) = type

abbrev pub nth_type : List TyRef → ℕ → TyRef
nth_type types place = type_or (slice_get types place)
