-- The definitions computed on small scripts.
use Rattle.std.proofs.Common.{◌≡◌, [], ◌∷◌, Some, None, refl}
use Rattle.ic_outside.specs.Pieces.{pieces, line_of}
use Rattle.ic_outside.specs.Limits.{LongLine, LongScript, excess}

-- an empty script has no line
rows-none : pieces [] ≡ []
unfolding pieces
rows-none = refl

-- "a", an empty line and "b" without its LF
rows-cut : pieces (97 ∷ 10 ∷ 10 ∷ 98 ∷ []) ≡ (97 ∷ 10 ∷ []) ∷ (10 ∷ []) ∷ (98 ∷ []) ∷ []
unfolding pieces
rows-cut = refl

-- no empty line follows a last LF
rows-ended : pieces (97 ∷ 10 ∷ []) ≡ (97 ∷ 10 ∷ []) ∷ []
unfolding pieces
rows-ended = refl

rows-line : line_of (97 ∷ 98 ∷ 10 ∷ []) ≡ 97 ∷ 98 ∷ []
unfolding line_of
rows-line = refl

-- a line of exactly the largest length, one byte more, and the LF of a whole line past the script
rows-fits : excess (record { line = 3; script = 9 }) 2 3 4 ≡ None
unfolding excess
rows-fits = refl

rows-long_line : excess (record { line = 3; script = 9 }) 2 4 5 ≡ Some LongLine
unfolding excess
rows-long_line = refl

rows-long_script : excess (record { line = 3; script = 5 }) 2 3 4 ≡ Some LongScript
unfolding excess
rows-long_script = refl

-- the byte too many is the line's and the script's: the line's limit decides
rows-same_byte : excess (record { line = 3; script = 5 }) 2 4 5 ≡ Some LongLine
unfolding excess
rows-same_byte = refl

-- one byte earlier in the script: its limit decides
rows-script_first : excess (record { line = 3; script = 4 }) 2 4 5 ≡ Some LongScript
unfolding excess
rows-script_first = refl
