-- How long the first piece of some bytes is, and which limit it passes.
use Rattle.std.proofs.Common.{◌≡◌, ℕ, ◌+◌, ◌<◌, ◌≤◌, List, [], ◌∷◌, length, length-take, refl, ap, arith, inl, inr, Some}
use Rattle.std.specs.Prelude.{◌==◌, not}
use Rattle.std.proofs.lemmas.Bool.{cases_Bool}
use Rattle.std.proofs.lemmas.Bool.Decides.{nat_tests}
use Rattle.std.specs.List.{prefix_len}
use Rattle.ic_outside.specs.Limits.{Limits, LongLine, LongScript, excess}
use Rattle.ic_outside.specs.Pieces.{pieces, onto_first, line_of}

length-onto_first : (b : ℕ) (bs piece : List ℕ) (rest all : List (List ℕ)) → ((p : List ℕ) (ps : List (List ℕ)) → all ≡ p ∷ ps → length p ≤ length bs)
    → onto_first b all ≡ piece ∷ rest → length piece ≤ length (b ∷ bs)
length-onto_first b bs piece rest [] shorter e = let is : b ∷ [] ≡ piece = cc in omega (arith, ap length is)
length-onto_first b bs piece rest (p ∷ ps) shorter e = let is : b ∷ p ≡ piece = cc in omega (arith, ap length is, shorter p ps refl)

-- the first piece is no longer than the bytes
pub length-pieces : (bytes piece : List ℕ) (rest : List (List ℕ)) → pieces bytes ≡ piece ∷ rest → length piece ≤ length bytes
unfolding pieces
length-pieces [] piece rest e = cc
length-pieces (b ∷ bs) piece rest e =
    elim (cases_Bool (b == 10)) [
      | inl lf ↦ let is : b ∷ [] ≡ piece = cc in omega (arith, ap length is)
      | inr other ↦ let onto : onto_first b (pieces bs) ≡ piece ∷ rest = cc in
          length-onto_first b bs piece rest (pieces bs) (λ p ps. length-pieces bs p ps) onto
    ]

-- the line is no longer than its piece
pub length-line_of : (piece : List ℕ) → length (line_of piece) ≤ length piece
unfolding line_of
length-line_of piece = omega (arith, length-take (prefix_len (λ b. not (b == 10)) piece) piece)

pub excess-long_line : (limits : Limits) (offset line piece : ℕ) → excess limits offset line piece ≡ Some LongLine → limits.line < line
unfolding excess
excess-long_line limits offset line piece e = grind (arith, nat_tests)

pub excess-long_script : (limits : Limits) (offset line piece : ℕ) → excess limits offset line piece ≡ Some LongScript → limits.script < offset + piece
unfolding excess
excess-long_script limits offset line piece e = grind (arith, nat_tests)
