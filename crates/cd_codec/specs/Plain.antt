-- Values without parts: their types, and their bytes (Candid specification, "Binary Format", M).
use Rattle.std.specs.Prelude.{◌≡◌, ℕ, Bool, true, false, List, [], ◌∷◌}
use Rattle.std.specs.Int.{w8, w16, w32, w64}
use Rattle.cd_types.specs.declared.primitive.Primitive.TheVariants as primitives
use Rattle.cd_types.specs.declared.entry.TyRef.{TyRef}
use Rattle.cd_types.specs.declared.entry.Entry.TheVariants.{Func, Service}
use Rattle.cd_types.specs.Shape.{Shape, primitive, compound}
use Rattle.ic_leb.specs.declared.width.Width.TheVariants.{Candid}
use Rattle.ic_leb.specs.Spells.{SpellsUnsigned, SpellsSigned}
use Rattle.cd_codec.specs.Content.{Plain, null, bool, nat, int, nat8, nat16, nat32, nat64, int8, int16, int32, int64, text, reserved, func, service, principal}
use Rattle.cd_codec.specs.Basic.{SpellsNatural, SpellsInteger, SpellsText, SpellsPrincipal, SpellsFunc}

-- the value has a type of this shape
abbrev pub HasShape : Plain → Shape → Type 0
HasShape null type = type ≡ primitive primitives.Null
HasShape (bool b) type = type ≡ primitive primitives.Bool
HasShape (nat n) type = type ≡ primitive primitives.Nat
HasShape (int z) type = type ≡ primitive primitives.Int
HasShape (nat8 n) type = type ≡ primitive primitives.Nat8
HasShape (nat16 n) type = type ≡ primitive primitives.Nat16
HasShape (nat32 n) type = type ≡ primitive primitives.Nat32
HasShape (nat64 n) type = type ≡ primitive primitives.Nat64
HasShape (int8 z) type = type ≡ primitive primitives.Int8
HasShape (int16 z) type = type ≡ primitive primitives.Int16
HasShape (int32 z) type = type ≡ primitive primitives.Int32
HasShape (int64 z) type = type ≡ primitive primitives.Int64
HasShape (text s) type = type ≡ primitive primitives.Text
HasShape reserved type = type ≡ primitive primitives.Reserved
HasShape (func s m) type = (args results : List TyRef) × (notes : List ℕ) × (type ≡ compound (Func args results notes))
HasShape (service p) type = (methods : List (List ℕ × TyRef)) × (type ≡ compound (Service methods))
HasShape (principal p) type = type ≡ primitive primitives.Principal

-- the byte of a bool
abbrev pub bool_byte : Bool → ℕ
bool_byte false = 0
bool_byte true = 1

-- the bytes spell the value
abbrev pub SpellsPlain : Plain → List ℕ → Type 0
SpellsPlain null bytes = bytes ≡ []
SpellsPlain (bool b) bytes = bytes ≡ bool_byte b ∷ []
SpellsPlain (nat n) bytes = SpellsUnsigned Candid n bytes
SpellsPlain (int z) bytes = SpellsSigned Candid z bytes
SpellsPlain (nat8 n) bytes = SpellsNatural w8 n bytes
SpellsPlain (nat16 n) bytes = SpellsNatural w16 n bytes
SpellsPlain (nat32 n) bytes = SpellsNatural w32 n bytes
SpellsPlain (nat64 n) bytes = SpellsNatural w64 n bytes
SpellsPlain (int8 z) bytes = SpellsInteger w8 z bytes
SpellsPlain (int16 z) bytes = SpellsInteger w16 z bytes
SpellsPlain (int32 z) bytes = SpellsInteger w32 z bytes
SpellsPlain (int64 z) bytes = SpellsInteger w64 z bytes
SpellsPlain (text s) bytes = SpellsText s bytes
SpellsPlain reserved bytes = bytes ≡ []
SpellsPlain (func s m) bytes = SpellsFunc (s, m) bytes
SpellsPlain (service p) bytes = SpellsPrincipal p bytes
SpellsPlain (principal p) bytes = SpellsPrincipal p bytes
