-- A script cut into pieces: each line with the LF that ends it, and the last line that may lack one.
use Rattle.std.specs.Prelude.{ℕ, ◌==◌, ◌≢◌, not, if◌then◌else◌, List, [], ◌∷◌, All, take_while}

-- no byte is an LF
abbrev pub HasNoLf : List ℕ → Type 0
HasNoLf bytes = All (λ b. b ≢ 10) bytes

-- a byte before the first piece
abbrev pub onto_first : ℕ → List (List ℕ) → List (List ℕ)
onto_first b [] = (b ∷ []) ∷ []
onto_first b (piece ∷ rest) = (b ∷ piece) ∷ rest

-- the bytes, cut after each LF; where they end with an LF no empty piece follows
unfoldable pub pieces : List ℕ → List (List ℕ)
pieces [] = []
pieces (b ∷ bs) = if b == 10 then (b ∷ []) ∷ pieces bs else onto_first b (pieces bs)

-- the line in a piece: the bytes before its LF
unfoldable pub line_of : List ℕ → List ℕ
line_of piece = take_while (λ b. not (b == 10)) piece
