-- The grammar of values without parts as functions that read (Candid specification, "Binary Format", M): they read what Plain spells.
use Rattle.std.specs.Prelude.{ℕ, ℤ, zero, suc, Bool, true, false, List, [], ◌∷◌, length, Option, Some, None, nat_lt, nat_le}
use Rattle.std.specs.Int.{Width, w8, w16, w32, w64, byte_len, from_le_bytes, cast_signed}
use Rattle.std.specs.List.{list_all}
use Rattle.std.specs.Str.{is_utf8}
use Rattle.ic_base.specs.Reader.{Reader, ◌>>=◌, empty_at, byte_at, bytes_at, both_at, map_at, filter_map_at, filter_at}
use Rattle.ic_leb.specs.declared.width.Width.TheVariants.{Candid}
use Rattle.ic_leb.specs.Reading.{unsigned_reader, signed_reader}
use Rattle.cd_types.specs.declared.primitive.Primitive.{Primitive}
use Rattle.cd_types.specs.declared.primitive.Primitive.TheVariants as primitives
use Rattle.cd_codec.specs.Content.{Plain, null, bool, nat, int, nat8, nat16, nat32, nat64, int8, int16, int32, int64, text, reserved, principal}

-- the numbers are bytes
abbrev pub are_bytes : List ℕ → Bool
are_bytes bytes = list_all (λ b. nat_lt b 256) bytes

-- a number of fixed width
unfoldable pub natural_at : Width → Reader ℕ
natural_at width = map_at (from_le_bytes width) (filter_at are_bytes (bytes_at (byte_len width)))

-- a signed number of fixed width
unfoldable pub integer_at : Width → Reader ℤ
integer_at width = map_at (cast_signed width) (natural_at width)

-- that many bytes as the count before them says
unfoldable pub counted_at : Reader (List ℕ)
counted_at bytes = do
  n ← unsigned_reader Candid bytes
  bytes_at n.0 n.1

-- a text
unfoldable pub text_at : Reader (List ℕ)
text_at = filter_at is_utf8 counted_at

-- a value after the byte 01
abbrev pub tagged_at : {A : Type 0} → Reader A → Reader A
tagged_at read [] = None
tagged_at read (zero ∷ rest) = None
tagged_at read (suc zero ∷ rest) = read rest
tagged_at read (suc (suc b) ∷ rest) = None

-- at most 29 bytes
abbrev pub is_short : List ℕ → Bool
is_short bytes = nat_le (length bytes) 29

-- a principal
unfoldable pub principal_at : Reader (List ℕ)
principal_at = tagged_at (filter_at is_short counted_at)

-- a method of a service
unfoldable pub func_at : Reader (List ℕ × List ℕ)
func_at = tagged_at (both_at principal_at (λ _. text_at))

-- the bool of a byte
abbrev pub bool_of : ℕ → Option Bool
bool_of zero = Some false
bool_of (suc zero) = Some true
bool_of (suc (suc b)) = None

-- a value of a primitive type
unfoldable pub primitive_at : Primitive → Reader Plain
primitive_at primitives.Null = empty_at null
primitive_at primitives.Bool = map_at bool (filter_map_at bool_of byte_at)
primitive_at primitives.Nat = map_at nat (unsigned_reader Candid)
primitive_at primitives.Int = map_at int (signed_reader Candid)
primitive_at primitives.Nat8 = map_at nat8 (natural_at w8)
primitive_at primitives.Nat16 = map_at nat16 (natural_at w16)
primitive_at primitives.Nat32 = map_at nat32 (natural_at w32)
primitive_at primitives.Nat64 = map_at nat64 (natural_at w64)
primitive_at primitives.Int8 = map_at int8 (integer_at w8)
primitive_at primitives.Int16 = map_at int16 (integer_at w16)
primitive_at primitives.Int32 = map_at int32 (integer_at w32)
primitive_at primitives.Int64 = map_at int64 (integer_at w64)
primitive_at primitives.Text = map_at text text_at
primitive_at primitives.Reserved = empty_at reserved
primitive_at primitives.Empty = λ bytes. None
primitive_at primitives.Principal = map_at principal principal_at
