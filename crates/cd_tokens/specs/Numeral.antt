-- How numbers are said (Candid specification, "Core Grammar", natural numbers and integers).
use Rattle.std.specs.Prelude.{◌≡◌, ℕ, ℤ, pos, neg_ℤ, nat_lt, if◌then◌else◌, List, [], ◌∷◌, Option, Some, None, ◌⊎◌}
use Rattle.std.specs.Int.Digits.{number_from_digits}
use Rattle.std.specs.Char.{digit_value}

-- the digit that the byte is in a base
abbrev pub digit_of : ℕ → ℕ → Option ℕ
digit_of base b = if nat_lt (digit_value b) base then Some (digit_value b) else None

-- digits in a base, with single _ between digits
abbrev pub AreDigits : ℕ → List ℕ → List ℕ → Type 0
AreDigits base [] bytes = ⊥
AreDigits base (d ∷ []) bytes = (b : ℕ) × (bytes ≡ b ∷ []) × (digit_of base b ≡ Some d)
AreDigits base (d ∷ e ∷ ds) bytes = (b : ℕ) × (rest : List ℕ) × (digit_of base b ≡ Some d) × ((bytes ≡ b ∷ rest) ⊎ (bytes ≡ b ∷ 95 ∷ rest)) × AreDigits base (e ∷ ds) rest

-- decimal digits, or 0x and hex digits
abbrev pub IsNumeral : ℕ → List ℕ → Type 0
IsNumeral n bytes = ((ds : List ℕ) × AreDigits 10 ds bytes × (n ≡ number_from_digits 10 ds))
    ⊎ ((rest ds : List ℕ) × (bytes ≡ 48 ∷ 120 ∷ rest) × AreDigits 16 ds rest × (n ≡ number_from_digits 16 ds))

-- a natural number: a numeral, maybe after +
abbrev pub IsNatural : ℕ → List ℕ → Type 0
IsNatural n bytes = IsNumeral n bytes ⊎ ((rest : List ℕ) × (bytes ≡ 43 ∷ rest) × IsNumeral n rest)

-- an integer: a natural number, or a numeral after -
abbrev pub IsInteger : ℤ → List ℕ → Type 0
IsInteger z bytes = ((n : ℕ) × (z ≡ pos n) × IsNatural n bytes) ⊎ ((n : ℕ) × (rest : List ℕ) × (z ≡ neg_ℤ (pos n)) × (bytes ≡ 45 ∷ rest) × IsNumeral n rest)
