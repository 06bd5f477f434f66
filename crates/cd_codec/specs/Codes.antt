-- The numbers of types (Candid specification, "Binary Format", T and I). Candid also has the floats, -13 and -14, and leaves
-- numbers below -24 to types to come: this replica refuses both.
use Rattle.std.specs.Prelude.{ℕ, ℤ, pos, negsuc, ◌-◌, ◌^◌, Bool, ◌&&◌, ◌||◌, List, [], ◌∷◌, Option, Some, None, nat_lt, ◌==◌, slice_get, option_map, if◌then◌else◌}
use Rattle.std.specs.Option.{option_flatten}
use Rattle.cd_types.specs.declared.primitive.Primitive.{Primitive}
use Rattle.cd_types.specs.declared.primitive.Primitive.TheVariants as primitives
use Rattle.cd_types.specs.PrimitiveCode.{primitive_code}
use Rattle.cd_types.specs.declared.entry.TyRef.{TyRef}
use Rattle.cd_types.specs.declared.entry.TyRef.TheVariants.{Prim, Index}
use Rattle.cd_types.specs.declared.entry.Entry.{Entry}
use Rattle.cd_types.specs.declared.entry.Entry.TheVariants as entries
use Rattle.cd_codec.specs.declared.codes.Kind.{Kind}
use Rattle.cd_codec.specs.declared.codes.Kind.TheVariants as kinds

-- the primitive types from -1 downward; the floats, -13 and -14, are none of them
abbrev pub primitive_numbers : List (Option Primitive)
primitive_numbers =
    Some primitives.Null ∷ Some primitives.Bool ∷ Some primitives.Nat ∷ Some primitives.Int
    ∷ Some primitives.Nat8 ∷ Some primitives.Nat16 ∷ Some primitives.Nat32 ∷ Some primitives.Nat64
    ∷ Some primitives.Int8 ∷ Some primitives.Int16 ∷ Some primitives.Int32 ∷ Some primitives.Int64
    ∷ None ∷ None ∷ Some primitives.Text ∷ Some primitives.Reserved
    ∷ Some primitives.Empty ∷ None ∷ None ∷ None
    ∷ None ∷ None ∷ None ∷ Some primitives.Principal ∷ []

-- float32 or float64, counted from -1 downward
abbrev pub is_float : ℕ → Bool
is_float code = code == 12 || code == 13

-- the primitive type whose number is that far below -1; where floats are admitted, they stand for null
abbrev pub primitive_named : Bool → ℕ → Option Primitive
primitive_named floats code = if floats && is_float code then Some primitives.Null else option_flatten (slice_get primitive_numbers code)

-- the type that a number refers to: a place in the table, or a primitive type
abbrev pub reference_named : Bool → ℤ → Option TyRef
reference_named floats (pos place) = if nat_lt place (2 ^ 32) then Some (Index place) else None
reference_named floats (negsuc code) = option_map (λ p. Prim p) (primitive_named floats code)

-- the kinds of entries from -18 downward
abbrev pub kind_numbers : List Kind
kind_numbers = kinds.Opt ∷ kinds.Seq ∷ kinds.Rec ∷ kinds.Var ∷ kinds.Func ∷ kinds.Service ∷ []

-- the kind of entry that a number names
abbrev pub kind_named : ℤ → Option Kind
kind_named (pos n) = None
kind_named (negsuc code) = if nat_lt code 17 then None else slice_get kind_numbers (code - 17)

-- the kind of an entry
abbrev pub kind_of : Entry → Kind
kind_of (entries.Opt type) = kinds.Opt
kind_of (entries.Seq type) = kinds.Seq
kind_of (entries.Rec fields) = kinds.Rec
kind_of (entries.Var cases) = kinds.Var
kind_of (entries.Func args results notes) = kinds.Func
kind_of (entries.Service methods) = kinds.Service

-- the number that refers to a type
abbrev pub reference_number : TyRef → ℤ
reference_number (Prim p) = negsuc (primitive_code p)
reference_number (Index place) = pos place

-- how many below -1 the number of a kind of entry is
abbrev pub kind_code : Kind → ℕ
kind_code kinds.Opt = 17
kind_code kinds.Seq = 18
kind_code kinds.Rec = 19
kind_code kinds.Var = 20
kind_code kinds.Func = 21
kind_code kinds.Service = 22
