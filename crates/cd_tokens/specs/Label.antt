-- Names, texts and the labels of fields and cases (Candid specification, "Core Grammar").
use Rattle.std.specs.Prelude.{◌≡◌, ℕ, ◌^◌, ◌<◌, ◌==◌, ◌&&◌, not, Bool, true, false, List, [], ◌∷◌, ◌⊎◌}
use Rattle.std.specs.List.{list_all}
use Rattle.std.specs.Str.{is_utf8}
use Rattle.cd_types.specs.FieldId.{field_id_of}
use Rattle.cd_tokens.specs.Bytes.{is_digit, is_word_byte}
use Rattle.cd_tokens.specs.Numeral.{IsNumeral}
use Rattle.cd_tokens.specs.Unescaped.{Unescaped}
use Rattle.cd_tokens.specs.Token.{Token, run, quoted, mark, arrow}

-- what is between the quotes says this text
abbrev pub IsTextOf : List ℕ → List ℕ → Type 0
IsTextOf text written = Unescaped text written × (is_utf8 text ≡ true)

-- letters, digits and _, not beginning with a digit
abbrev pub is_name : List ℕ → Bool
is_name [] = false
is_name (b ∷ bytes) = is_word_byte b && not (is_digit b) && list_all is_word_byte bytes

-- the token is this name: a name, or a string
abbrev pub IsNameOf : List ℕ → Token → Type 0
IsNameOf name (run r) = (is_name r ≡ true) × (name ≡ r)
IsNameOf name (quoted s) = IsTextOf name s
IsNameOf name (mark m) = ⊥
IsNameOf name arrow = ⊥

-- digits that begin with 0 alone
abbrev pub is_plain_number : List ℕ → Bool
is_plain_number [] = false
is_plain_number (b ∷ []) = is_digit b
is_plain_number (b ∷ c ∷ bytes) = is_digit b && not (b == 48) && list_all is_digit (c ∷ bytes)

-- the token is a decimal number below 2^32
abbrev pub IsPlainNumber : ℕ → Token → Type 0
IsPlainNumber n (run r) = (is_plain_number r ≡ true) × IsNumeral n r × (n < 2 ^ 32)
IsPlainNumber n (quoted s) = ⊥
IsPlainNumber n (mark m) = ⊥
IsPlainNumber n arrow = ⊥

-- the token is a label with this id: a number, or a name that has the id
abbrev pub IsLabel : ℕ → Token → Type 0
IsLabel id token = IsPlainNumber id token ⊎ ((name : List ℕ) × IsNameOf name token × (id ≡ field_id_of name))
