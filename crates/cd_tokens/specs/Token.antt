-- The tokens of Candid's textual formats (Candid specification, "Core Grammar").
use Rattle.std.specs.Prelude.{◌≡◌, ℕ, Bool, true, false, ◌==◌, ◌&&◌, ◌||◌, not, List, [], ◌∷◌, ◌++◌, codes}
use Rattle.std.specs.List.{list_all}
use Rattle.cd_tokens.specs.Bytes.{is_word_byte, is_sign, is_mark, goes_on}

-- a word or a number, a string as it is between its quotes, a mark, or ->
pub data Token : Type 0 where
  run : List ℕ → Token
  quoted : List ℕ → Token
  mark : ℕ → Token
  arrow : Token

-- a letter, a digit or _, or a sign in front of one
abbrev pub begins_run : ℕ → List ℕ → Bool
begins_run b bytes = is_word_byte b || is_sign b && goes_on bytes

-- letters, digits and _, with a sign in front or none
abbrev pub is_run : List ℕ → Bool
is_run [] = false
is_run (b ∷ bytes) = begins_run b bytes && list_all is_word_byte bytes

-- each backslash comes before a byte that it escapes, and each quote is escaped; `escaped`: a backslash comes before
abbrev pub is_closed : Bool → List ℕ → Bool
is_closed escaped [] = not escaped
is_closed escaped (b ∷ bytes) = not (not escaped && b == 34) && is_closed (not escaped && b == 92) bytes

-- the bytes are the token
abbrev pub IsToken : Token → List ℕ → Type 0
IsToken (run r) bytes = (is_run r ≡ true) × (bytes ≡ r)
IsToken (quoted s) bytes = (is_closed false s ≡ true) × (bytes ≡ 34 ∷ (s ++ 34 ∷ []))
IsToken (mark m) bytes = (is_mark m ≡ true) × (bytes ≡ m ∷ [])
IsToken arrow bytes = bytes ≡ codes "->"

-- the token ends where these bytes follow: a word or a number before what is no letter, digit or _
abbrev pub IsEnded : Token → List ℕ → Type 0
IsEnded (run r) rest = goes_on rest ≡ false
IsEnded (quoted s) rest = Unit {0}
IsEnded (mark m) rest = Unit {0}
IsEnded arrow rest = Unit {0}
