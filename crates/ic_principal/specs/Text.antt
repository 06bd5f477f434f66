-- The text of a principal (IC Interface Specification, "Textual representation of principals").
use Rattle.std.specs.Prelude.{◌≡◌, ℕ, ◌&&◌, nat_le, Option, Some, None, List, [], ◌∷◌, ◌++◌, length, map, drop, if◌then◌else◌}
use Rattle.std.specs.List.{flat_map, filter_map}
use Rattle.std.specs.Str.{bytes_eq}
use Rattle.ic_principal.specs.Bits.{bits, bits_of}
use Rattle.ic_principal.specs.Checksum.{checksum}
use Rattle.ic_principal.specs.Base32.{character, fives, value_of, eights}

-- a dash (45) before characters, if there are any
abbrev pub after_dash : List ℕ → List ℕ
after_dash [] = []
after_dash (c ∷ cs) = 45 ∷ c ∷ cs

-- the characters with a dash after each five that others follow
unfoldable pub dashed : List ℕ → List ℕ
dashed (a ∷ b ∷ c ∷ d ∷ e ∷ others) = a ∷ b ∷ c ∷ d ∷ e ∷ after_dash (dashed others)
dashed characters = characters

-- the text of a principal's bytes: the checksum and the bytes in base32, with dashes
unfoldable pub text_of : List ℕ → List ℕ
text_of bytes = dashed (map character (fives (checksum bytes ++ bits bytes)))

-- the text is that of the principal of these bytes
abbrev pub IsText : List ℕ → List ℕ → Type 0
IsText bytes text = text ≡ text_of bytes

-- the bytes that a text's characters spell after the four of a checksum; what has no value, as a dash, is passed over
unfoldable pub bytes_read : List ℕ → List ℕ
bytes_read text = drop 4 (eights (flat_map (bits_of 5) (filter_map value_of text)))

-- the principal that has this text, if there is one
unfoldable pub principal_of : List ℕ → Option (List ℕ)
principal_of text =
    if nat_le (length (bytes_read text)) 29 && bytes_eq (text_of (bytes_read text)) text then Some (bytes_read text) else None
