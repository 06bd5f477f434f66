-- The words of the grammar of values, as tokens (Candid specification, "Core Grammar").
use Rattle.std.specs.Prelude.{ℕ, List, codes}
use Rattle.cd_types.specs.declared.primitive.Primitive.{Primitive}
use Rattle.cd_types.specs.declared.primitive.Primitive.TheVariants as primitives
pub use Rattle.cd_tokens.specs.Marks.{opening, closing, open_brace, close_brace, comma, dot, semicolon, colon, equals}

-- the name of a primitive type
unfoldable pub name_of : Primitive → List ℕ
name_of primitives.Null = codes "null"
name_of primitives.Bool = codes "bool"
name_of primitives.Nat = codes "nat"
name_of primitives.Int = codes "int"
name_of primitives.Nat8 = codes "nat8"
name_of primitives.Nat16 = codes "nat16"
name_of primitives.Nat32 = codes "nat32"
name_of primitives.Nat64 = codes "nat64"
name_of primitives.Int8 = codes "int8"
name_of primitives.Int16 = codes "int16"
name_of primitives.Int32 = codes "int32"
name_of primitives.Int64 = codes "int64"
name_of primitives.Text = codes "text"
name_of primitives.Reserved = codes "reserved"
name_of primitives.Empty = codes "empty"
name_of primitives.Principal = codes "principal"
