-- Steps that may have a cause not to be taken.
use Rattle.std.specs.Prelude.{List, [], ◌∷◌, Result, Ok, Err}
use Rattle.ic_script.specs.declared.line_cause.LineCause.{LineCause}

-- the second step, where the first has no cause
infixl 10 ◌>>=◌
abbrev pub ◌>>=◌ : {A B : Type 0} → Result A LineCause → (A → Result B LineCause) → Result B LineCause
Ok value >>= step = step value
Err cause >>= step = Err cause

-- the same step from each, or the first cause
abbrev pub each : {A B : Type 0} → (A → Result B LineCause) → List A → Result (List B) LineCause
each step [] = Ok []
each step (x ∷ xs) = step x >>= λ y. each step xs >>= λ ys. Ok (y ∷ ys)
