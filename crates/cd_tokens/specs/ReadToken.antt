-- The first token of bytes, as a function that reads it.
use Rattle.std.specs.Prelude.{ℕ, suc, Bool, false, ◌==◌, ◌&&◌, not, if◌then◌else◌, List, [], ◌∷◌, take, drop, Option, Some, None}
use Rattle.std.specs.List.{prefix_len}
use Rattle.ic_base.specs.Reader.{Reader, ◌>>=◌}
use Rattle.cd_tokens.specs.Bytes.{is_word_byte, is_mark}
use Rattle.cd_tokens.specs.Token.{Token, run, quoted, mark, arrow, begins_run}

abbrev pub after_one : Option ℕ → Option ℕ
after_one None = None
after_one (Some n) = Some (suc n)

-- the place of the quote that ends a string
unfoldable pub end_of : Bool → List ℕ → Option ℕ
end_of escaped [] = None
end_of escaped (b ∷ bytes) = if not escaped && b == 34 then Some 0 else after_one (end_of (not escaped && b == 92) bytes)

-- a string after its first quote
abbrev pub string_at : Reader Token
string_at bytes = do
  n ← end_of false bytes
  Some (quoted (take n bytes), drop (suc n) bytes)

-- a run, one byte long at least
abbrev pub run_at : List ℕ → Token × List ℕ
run_at bytes = let n = suc (prefix_len is_word_byte (drop 1 bytes)) in (run (take n bytes), drop n bytes)

-- the bytes begin with >
abbrev pub ends_arrow : List ℕ → Bool
ends_arrow [] = false
ends_arrow (b ∷ bytes) = b == 62

-- the token of a first byte
abbrev pub token_of : ℕ → List ℕ → Option (Token × List ℕ)
token_of b bytes =
    if is_mark b then Some (mark b, bytes) else if b == 34 then string_at bytes else if begins_run b bytes then Some (run_at (b ∷ bytes))
    else if b == 45 && ends_arrow bytes then Some (arrow, drop 1 bytes) else None

-- a token at the front of the bytes
unfoldable pub token_at : Reader Token
token_at [] = None
token_at (b ∷ bytes) = token_of b bytes
