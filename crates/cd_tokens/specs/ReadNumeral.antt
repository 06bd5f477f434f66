-- Numbers as functions that read them.
use Rattle.std.specs.Prelude.{ℕ, ℤ, pos, negsuc, neg_ℤ, ◌+◌, ◌*◌, ◌&&◌, ◌==◌, Bool, true, false, nat_lt, option_map, if◌then◌else◌, List, [], ◌∷◌, Option, Some, None}
use Rattle.ic_base.specs.Reader.{◌>>=◌}
use Rattle.cd_tokens.specs.Numeral.{digit_of}

-- the number of digits that follow those of acc; `needs`: a digit must follow
unfoldable pub digits_from : ℕ → Bool → ℕ → List ℕ → Option ℕ
digits_from base needs acc [] = if needs then None else Some acc
digits_from base needs acc (b ∷ bytes) =
    if b == 95 then (if needs then None else digits_from base true acc bytes)
    else (digit_of base b >>= λ d. digits_from base false (acc * base + d) bytes)

-- the number of a numeral
unfoldable pub numeral_of : List ℕ → Option ℕ
numeral_of [] = None
numeral_of (a ∷ []) = digits_from 10 true 0 (a ∷ [])
numeral_of (a ∷ b ∷ bytes) = if a == 48 && b == 120 then digits_from 16 true 0 bytes else digits_from 10 true 0 (a ∷ b ∷ bytes)

-- a natural number
unfoldable pub natural_of : List ℕ → Option ℕ
natural_of [] = None
natural_of (a ∷ bytes) = if a == 43 then numeral_of bytes else numeral_of (a ∷ bytes)

-- an integer
unfoldable pub integer_of : List ℕ → Option ℤ
integer_of [] = None
integer_of (a ∷ bytes) = if a == 45 then option_map (λ n. neg_ℤ (pos n)) (numeral_of bytes) else option_map (λ n. pos n) (natural_of (a ∷ bytes))

-- the number where it is below the limit
abbrev pub below : ℕ → Option ℕ → Option ℕ
below limit None = None
below limit (Some n) = if nat_lt n limit then Some n else None

-- from -half to half - 1
abbrev pub is_between : ℕ → ℤ → Bool
is_between half (pos n) = nat_lt n half
is_between half (negsuc n) = nat_lt n half

-- the integer where it is from -half to half - 1
abbrev pub between : ℕ → Option ℤ → Option ℤ
between half None = None
between half (Some z) = if is_between half z then Some z else None
