-- One step taken from each of a list, one after the other.
use Rattle.std.proofs.Common.{List, ◌++◌, Result, Ok}
use Rattle.ic_script.specs.declared.line_cause.LineCause.{LineCause}
use Rattle.ic_script.specs.Steps.{◌>>=◌}

-- what was made before, and the rest
abbrev pub made_and : {B : Type 0} → List B → Result (List B) LineCause → Result (List B) LineCause
made_and made rest = rest >>= λ ys. Ok (made ++ ys)
