use Rattle.wm_valid.specs.Visited.{Visited}
use Rattle.wm_valid.proofs.bodies.validate_functions.Given as goal

abbrev pub invariant-loop-number : goal.invariant-loop-number
invariant-loop-number l = Visited l.scope.«module».now l.number l.untyped l.codes.items
