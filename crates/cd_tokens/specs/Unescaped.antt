-- What a string says (Candid specification, "Core Grammar", text values).
use Rattle.std.specs.Prelude.{◌≡◌, ℕ, ◌*◌, ◌+◌, ◌≤◌, ◌||◌, ◌==◌, false, if◌then◌else◌, List, [], ◌∷◌, ◌++◌, length, Option, Some, None, encode_utf8}
use Rattle.std.specs.Int.Digits.{number_from_digits}
use Rattle.std.specs.Char.{IsScalar}
use Rattle.cd_tokens.specs.Numeral.{digit_of}

-- a piece of a string, and the bytes that it says: a byte as it is, a letter after a backslash, two hex digits after one,
-- a scalar value in braces
pub data Part : Type 0 where
  byte : ℕ → Part
  letter : ℕ → Part
  pair : ℕ → ℕ → Part
  scalar : List ℕ → Part

-- the byte that a letter after a backslash says: n, r, t, \, " and '
abbrev pub letter_says : ℕ → Option ℕ
letter_says b = if b == 110 then Some 10 else if b == 114 then Some 13 else if b == 116 then Some 9 else if b == 92 || b == 34 || b == 39 then Some b else None

-- hex digits, one after the other
abbrev pub AreHex : List ℕ → List ℕ → Type 0
AreHex [] bytes = bytes ≡ []
AreHex (d ∷ ds) bytes = (b : ℕ) × (rest : List ℕ) × (bytes ≡ b ∷ rest) × (digit_of 16 b ≡ Some d) × AreHex ds rest

-- the bytes of the text say these bytes
abbrev pub SaysPart : Part → List ℕ → List ℕ → Type 0
SaysPart (byte b) said written = (32 ≤ b) × (b == 34 ≡ false) × (b == 92 ≡ false) × (said ≡ b ∷ []) × (written ≡ b ∷ [])
SaysPart (letter b) said written = (c : ℕ) × (letter_says b ≡ Some c) × (said ≡ c ∷ []) × (written ≡ 92 ∷ b ∷ [])
SaysPart (pair d e) said written = (rest : List ℕ) × (written ≡ 92 ∷ rest) × AreHex (d ∷ e ∷ []) rest × (said ≡ (d * 16 + e) ∷ [])
SaysPart (scalar ds) said written = (hex : List ℕ) × (written ≡ 92 ∷ 117 ∷ 123 ∷ (hex ++ 125 ∷ [])) × AreHex ds hex × (1 ≤ length ds) × (length ds ≤ 6)
    × IsScalar (number_from_digits 16 ds) × (said ≡ encode_utf8 (number_from_digits 16 ds))

-- the parts one after the other
abbrev pub SayParts : List Part → List ℕ → List ℕ → Type 0
SayParts [] said written = (said ≡ []) × (written ≡ [])
SayParts (p ∷ ps) said written = (first : List ℕ) × (rest : List ℕ) × (front : List ℕ) × (back : List ℕ) × (said ≡ first ++ rest) × (written ≡ front ++ back) × SaysPart p first front × SayParts ps rest back

-- what is between the quotes says these bytes
abbrev pub Unescaped : List ℕ → List ℕ → Type 0
Unescaped said written = (ps : List Part) × SayParts ps said written
