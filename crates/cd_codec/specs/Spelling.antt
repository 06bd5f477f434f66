-- How values are written: each number in its shortest spelling (Candid specification, "Binary Format", M).
use Rattle.std.specs.Prelude.{ℕ, List, [], ◌∷◌, ◌++◌, length}
use Rattle.std.specs.Int.{w8, w16, w32, w64, to_le_bytes, cast_unsigned}
use Rattle.ic_leb.specs.Spelling.{unsigned_spelling, signed_spelling}
use Rattle.cd_codec.specs.Content.{Plain, null, bool, nat, int, nat8, nat16, nat32, nat64, int8, int16, int32, int64, text, reserved, func, service, principal, Content, plain, blob, none, some, list, record_of, variant, Contents, no_content, content, Parts, no_part, part, count_of}
use Rattle.cd_codec.specs.Plain.{bool_byte}

-- bytes after their number
abbrev pub counted : List ℕ → List ℕ
counted s = unsigned_spelling (length s) ++ s

-- a principal: the byte 01, and its bytes after their number
abbrev pub principal_spelling : List ℕ → List ℕ
principal_spelling p = 1 ∷ counted p

-- a value without parts
unfoldable pub plain_spelling : Plain → List ℕ
plain_spelling null = []
plain_spelling (bool b) = bool_byte b ∷ []
plain_spelling (nat n) = unsigned_spelling n
plain_spelling (int z) = signed_spelling z
plain_spelling (nat8 n) = to_le_bytes w8 n
plain_spelling (nat16 n) = to_le_bytes w16 n
plain_spelling (nat32 n) = to_le_bytes w32 n
plain_spelling (nat64 n) = to_le_bytes w64 n
plain_spelling (int8 z) = to_le_bytes w8 (cast_unsigned w8 z)
plain_spelling (int16 z) = to_le_bytes w16 (cast_unsigned w16 z)
plain_spelling (int32 z) = to_le_bytes w32 (cast_unsigned w32 z)
plain_spelling (int64 z) = to_le_bytes w64 (cast_unsigned w64 z)
plain_spelling (text s) = counted s
plain_spelling reserved = []
plain_spelling (func p method) = 1 ∷ (principal_spelling p ++ counted method)
plain_spelling (service p) = principal_spelling p
plain_spelling (principal p) = principal_spelling p

unfoldable mutual
  -- a value
  pub spelling : Content → List ℕ
  spelling (plain p) = plain_spelling p
  spelling (blob s) = counted s
  spelling none = 0 ∷ []
  spelling (some v) = 1 ∷ spelling v
  spelling (list vs) = unsigned_spelling (count_of vs) ++ spelling_all vs
  spelling (record_of ps) = spelling_parts ps
  spelling (variant i v) = unsigned_spelling i ++ spelling v

  -- values one after the other
  pub spelling_all : Contents → List ℕ
  spelling_all no_content = []
  spelling_all (content v vs) = spelling v ++ spelling_all vs

  -- the values of fields one after the other
  pub spelling_parts : Parts → List ℕ
  spelling_parts no_part = []
  spelling_parts (part i v ps) = spelling v ++ spelling_parts ps
