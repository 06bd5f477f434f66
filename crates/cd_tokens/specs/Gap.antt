-- What may be between tokens (Candid specification, "Comments"): blanks, and comments where they are admitted.
use Rattle.std.specs.Prelude.{◌≡◌, ℕ, Bool, true, false, ◌==◌, ◌&&◌, not, List, [], ◌∷◌, ◌++◌, ◌⊎◌, if◌then◌else◌}
use Rattle.std.specs.List.{list_all}
use Rattle.ic_base.specs.Spelling.{SpellsMany}
use Rattle.cd_tokens.specs.Bytes.{is_blank}

-- a blank, a comment to the end of its line, a comment between /* and */
pub data Piece : Type 0 where
  blank : ℕ → Piece
  line : List ℕ → Piece
  block : List ℕ → Piece

-- there is no byte
abbrev pub is_end : List ℕ → Bool
is_end [] = true
is_end (b ∷ bytes) = false

-- a line feed ends the bytes, and is nowhere before
abbrev pub is_line : List ℕ → Bool
is_line [] = false
is_line (b ∷ bytes) = if b == 10 then is_end bytes else is_line bytes

-- */ ends the bytes, and is nowhere before; `star`: a * comes before
abbrev pub is_block : Bool → List ℕ → Bool
is_block star [] = false
is_block star (b ∷ bytes) = if star && b == 47 then is_end bytes else is_block (b == 42) bytes

-- the bytes are the piece
abbrev pub IsPiece : Bool → Piece → List ℕ → Type 0
IsPiece comments (blank b) bytes = (is_blank b ≡ true) × (bytes ≡ b ∷ [])
IsPiece comments (line s) bytes = (comments ≡ true) × (is_line s ≡ true) × (bytes ≡ 47 ∷ 47 ∷ s)
IsPiece comments (block s) bytes = (comments ≡ true) × (is_block false s ≡ true) × (bytes ≡ 47 ∷ 42 ∷ s)

-- the bytes are a gap: pieces one after the other
abbrev pub IsGap : Bool → List ℕ → Type 0
IsGap comments bytes = (pieces : List Piece) × SpellsMany (IsPiece comments) pieces bytes

-- a byte that is no line feed
abbrev pub is_inside_line : ℕ → Bool
is_inside_line b = not (b == 10)

-- the bytes are the gap after the last token: it may end within a comment to the end of its line
abbrev pub IsLastGap : Bool → List ℕ → Type 0
IsLastGap comments bytes = IsGap comments bytes
    ⊎ ((front rest : List ℕ) × (comments ≡ true) × (bytes ≡ front ++ (47 ∷ 47 ∷ rest)) × IsGap comments front × (list_all is_inside_line rest ≡ true))
