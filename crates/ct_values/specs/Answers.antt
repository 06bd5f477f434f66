-- What is answered of tokens.
use Rattle.std.specs.Prelude.{◌≡◌, ◌≤◌, ℕ, List, Result, Ok, Err}
use Rattle.std.specs.Global.{Vec}
use Rattle.ct_patterns.specs.declared.step.Step.{Step as Held}
use Rattle.ct_values.specs.Steps.{Step, step_views}
use Rattle.ct_values.specs.declared.fault.PatternFault.{PatternFault}
use Rattle.ct_values.specs.declared.fault.PatternFault.TheVariants.{NoMemory, Unexpected}

-- a fault is at one of the tokens, which are `count`, or at their end
abbrev pub IsInside : {A : Type 0} → ℕ → Result A PatternFault → Type 0
IsInside count (Ok x) = Unit {0}
IsInside count (Err NoMemory) = Unit {0}
IsInside count (Err (Unexpected index)) = index ≤ count

-- the pattern is answered, unless memory ran out
abbrev pub Answers : Result (Vec Held) PatternFault → List Step → Type 0
Answers (Ok held) steps = step_views held.items ≡ steps
Answers (Err NoMemory) steps = Unit {0}
Answers (Err (Unexpected index)) steps = ⊥
