-- The numbers of the primitive types (Candid specification, "Binary Format", T).
use Rattle.std.specs.Prelude.{ℕ}
use Rattle.cd_types.specs.declared.primitive.Primitive.{Primitive}
use Rattle.cd_types.specs.declared.primitive.Primitive.TheVariants as primitives

-- how many below -1 the number of a primitive type is
abbrev pub primitive_code : Primitive → ℕ
primitive_code primitives.Null = 0
primitive_code primitives.Bool = 1
primitive_code primitives.Nat = 2
primitive_code primitives.Int = 3
primitive_code primitives.Nat8 = 4
primitive_code primitives.Nat16 = 5
primitive_code primitives.Nat32 = 6
primitive_code primitives.Nat64 = 7
primitive_code primitives.Int8 = 8
primitive_code primitives.Int16 = 9
primitive_code primitives.Int32 = 10
primitive_code primitives.Int64 = 11
primitive_code primitives.Text = 14
primitive_code primitives.Reserved = 15
primitive_code primitives.Empty = 16
primitive_code primitives.Principal = 23
