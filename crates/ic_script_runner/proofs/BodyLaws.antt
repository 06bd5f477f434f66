-- Laws of the whole lines of a script.
use Rattle.std.proofs.Common.{◌≡◌, ℕ, true, false, cond, ◌||◌, List, [], ◌∷◌, ◌++◌, refl, ap, ◌∙◌, arith}
use Rattle.std.specs.Prelude.{◌==◌}
use Rattle.std.proofs.Math.Bool.{or-true}
use Rattle.std.specs.List.{list_any}
use Rattle.ic_outside.specs.Pieces.{HasNoLf, pieces}
use Rattle.ic_outside.proofs.PieceLaws.{pieces-rest, HasNoLf-head, HasNoLf-tail}
use Rattle.ic_script_runner.specs.Body.{whole_lines}

has_lf-line : (line : List ℕ) → list_any (λ byte. byte == 10) (line ++ 10 ∷ []) ≡ true
has_lf-line [] = refl
has_lf-line (b ∷ bs) = ap (λ t. (b == 10) || t) (has_lf-line bs) ∙ or-true (b == 10)

has_lf-none : (line : List ℕ) → HasNoLf line → list_any (λ byte. byte == 10) line ≡ false
has_lf-none [] none = refl
has_lf-none (b ∷ bs) none = ap (λ t. t || list_any (λ byte. byte == 10) bs) (HasNoLf-head b bs none) ∙ has_lf-none bs (HasNoLf-tail b bs none)

-- a line with its line feed is whole
pub whole_lines-line : (line : List ℕ) (rest : List (List ℕ)) → whole_lines ((line ++ 10 ∷ []) ∷ rest) ≡ (line ++ 10 ∷ []) ∷ whole_lines rest
unfolding whole_lines
whole_lines-line line rest =
    ap (λ t. cond t ((line ++ 10 ∷ []) ∷ whole_lines rest) (whole_lines rest)) (has_lf-line line)

whole_lines-rest : (line : List ℕ) → HasNoLf line → whole_lines (line ∷ []) ≡ []
unfolding whole_lines
whole_lines-rest line none = ap (λ t. cond t (line ∷ []) []) (has_lf-none line none)

whole_lines-nil : whole_lines [] ≡ []
unfolding whole_lines
whole_lines-nil = refl

pieces-nil : pieces [] ≡ []
unfolding pieces
pieces-nil = refl

-- bytes without a line feed have no whole line
pub whole_lines-none : (bytes : List ℕ) → HasNoLf bytes → whole_lines (pieces bytes) ≡ []
whole_lines-none [] none = ap whole_lines pieces-nil ∙ whole_lines-nil
whole_lines-none (b ∷ bs) none = ap whole_lines (pieces-rest (b ∷ bs) none (omega arith)) ∙ whole_lines-rest (b ∷ bs) none
