-- What a string says, as a function that goes on byte by byte.
use Rattle.std.specs.Prelude.{ℕ, ◌+◌, ◌*◌, ◌^◌, Bool, true, false, ◌==◌, ◌&&◌, ◌||◌, nat_lt, if◌then◌else◌, List, [], ◌∷◌, ◌++◌, Option, Some, None, encode_utf8}
use Rattle.std.proofs.Math.Utf8.{scalar}
use Rattle.ic_base.specs.Reader.{◌>>=◌}
use Rattle.cd_tokens.specs.Numeral.{digit_of}
use Rattle.cd_tokens.specs.ReadNumeral.{below}
use Rattle.cd_tokens.specs.Unescaped.{letter_says}
use Rattle.cd_tokens.specs.declared.string.Within.{Within}
use Rattle.cd_tokens.specs.declared.string.Within.TheVariants.{Plain, Backslash, Pair, Brace, Scalar}
use Rattle.cd_tokens.specs.declared.string.Said.{Said}
use Rattle.cd_tokens.specs.declared.string.Said.TheVariants as said

-- the bytes that are said
abbrev pub bytes_of : Said → List ℕ
bytes_of said.Nothing = []
bytes_of (said.Byte b) = b ∷ []
bytes_of (said.Char c) = encode_utf8 c

-- after a backslash: a letter, u, or a hex digit
abbrev pub behind_backslash : Option ℕ → Bool → Option ℕ → Option (Within × Said)
behind_backslash (Some c) is_u digit = Some (Plain, said.Byte c)
behind_backslash None true digit = Some (Brace, said.Nothing)
behind_backslash None false None = None
behind_backslash None false (Some d) = Some (Pair d, said.Nothing)

-- the byte of two hex digits
abbrev pub paired : ℕ → ℕ → Option (Within × Said)
paired d e = below (2 ^ 8) (Some (d * 16 + e)) >>= λ b. Some (Plain, said.Byte b)

-- one digit more of a scalar value
abbrev pub with_digit : ℕ → ℕ → ℕ → Option (Within × Said)
with_digit count n d = below (2 ^ 32) (Some (n * 16 + d)) >>= λ m. Some (Scalar (count + 1) m, said.Nothing)

-- where one comes after one more byte, and what that byte says
abbrev pub string_step : Within → ℕ → Option (Within × Said)
string_step Plain b = if b == 92 then Some (Backslash, said.Nothing) else if nat_lt b 32 || b == 34 then None else Some (Plain, said.Byte b)
string_step Backslash b = behind_backslash (letter_says b) (b == 117) (digit_of 16 b)
string_step (Pair d) b = digit_of 16 b >>= λ e. paired d e
string_step Brace b = if b == 123 then Some (Scalar 0 0, said.Nothing) else None
string_step (Scalar count n) b =
    if b == 125 then (if nat_lt 0 count && scalar n then Some (Plain, said.Char n) else None)
    else if nat_lt count 6 then (digit_of 16 b >>= λ d. with_digit count n d) else None

abbrev pub is_plain : Within → Bool
is_plain Plain = true
is_plain Backslash = false
is_plain (Pair d) = false
is_plain Brace = false
is_plain (Scalar count n) = false

-- bytes in front of what is said
abbrev pub said_then : List ℕ → Option (List ℕ) → Option (List ℕ)
said_then front None = None
said_then front (Some rest) = Some (front ++ rest)

-- what the rest of a string says
unfoldable pub unescaped_from : Within → List ℕ → Option (List ℕ)
unescaped_from within [] = if is_plain within then Some [] else None
unescaped_from within (b ∷ bytes) = string_step within b >>= λ x. said_then (bytes_of x.1) (unescaped_from x.0 bytes)

-- what a string says
abbrev pub unescaped_of : List ℕ → Option (List ℕ)
unescaped_of bytes = unescaped_from Plain bytes
