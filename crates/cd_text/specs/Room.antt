-- How much memory tokens take.
use Rattle.std.specs.Prelude.{ℕ, suc, List, [], ◌∷◌, length, ◌+◌}
use Rattle.cd_tokens.specs.Token.{Token, run, quoted, mark, arrow}

-- the bytes that are kept of a token
abbrev pub size : Token → ℕ
size (run r) = length r
size (quoted s) = length s
size (mark m) = 0
size arrow = 0

-- the bytes of all, and one for each
abbrev pub room : List Token → ℕ
room [] = 0
room (t ∷ tokens) = suc (size t) + room tokens
