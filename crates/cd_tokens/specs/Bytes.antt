-- The bytes that tokens are made of (Candid specification, "Core Grammar").
use Rattle.std.specs.Prelude.{ℕ, Bool, false, ◌==◌, ◌&&◌, ◌||◌, nat_le, List, [], ◌∷◌, codes}

-- the byte is one of these
abbrev pub is_one_of : List ℕ → ℕ → Bool
is_one_of [] b = false
is_one_of (m ∷ ms) b = b == m || is_one_of ms b

-- space, tab, line feed, carriage return
abbrev pub is_blank : ℕ → Bool
is_blank = is_one_of (32 ∷ 9 ∷ 10 ∷ 13 ∷ [])

abbrev pub is_digit : ℕ → Bool
is_digit b = nat_le 48 b && nat_le b 57

abbrev pub is_letter : ℕ → Bool
is_letter b = nat_le 97 b && nat_le b 122 || nat_le 65 b && nat_le b 90

-- a letter, a digit or _
abbrev pub is_word_byte : ℕ → Bool
is_word_byte b = is_letter b || is_digit b || b == 95

-- + or -
abbrev pub is_sign : ℕ → Bool
is_sign b = b == 43 || b == 45

abbrev pub is_mark : ℕ → Bool
is_mark = is_one_of (codes "(){}:;,=.")

-- the bytes begin with a letter, a digit or _
abbrev pub goes_on : List ℕ → Bool
goes_on [] = false
goes_on (b ∷ bytes) = is_word_byte b
