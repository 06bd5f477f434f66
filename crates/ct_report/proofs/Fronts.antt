-- Texts that begin with others.
use Rattle.std.proofs.Common.{◌≡◌, ◌++◌, ◌∙◌, ℕ, List, Result, Ok, Err, IfOk, ap, append_assoc}
use Rattle.ct_report.specs.Told.{BeginsWith}

-- a text that is joined of two begins with the first, and with its front
pub begun : {E : Type 0} (front more rest whole : List ℕ) (r : Result (List ℕ) E) → whole ≡ front ++ more → IfOk r (λ told. told ≡ whole ++ rest) → IfOk r (λ told. BeginsWith front told)
begun front more rest whole (Ok told) split joined = (more ++ rest, joined ∙ ap (λ (w : List ℕ). w ++ rest) split ∙ append_assoc front more rest)
begun front more rest whole (Err error) split joined = tt
