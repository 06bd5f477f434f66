-- Which token comes first.
use Rattle.std.specs.Prelude.{ℕ, ◌==◌, Bool, false, bytes_eq, List, [], ◌∷◌}
use Rattle.cd_tokens.specs.Token.{Token, run, quoted, mark, arrow}

-- the token is this word
abbrev pub is_word : List ℕ → Token → Bool
is_word w (run r) = bytes_eq r w
is_word w (quoted s) = false
is_word w (mark m) = false
is_word w arrow = false

-- the token is this mark
abbrev pub is_mark : ℕ → Token → Bool
is_mark k (run r) = false
is_mark k (quoted s) = false
is_mark k (mark m) = m == k
is_mark k arrow = false

-- the first token passes
abbrev pub starts : (Token → Bool) → List Token → Bool
starts test [] = false
starts test (t ∷ rest) = test t
