use Rattle.std.proofs.Common.{◌≡◌, take}
use Rattle.std.specs.Prelude.{map}
use Rattle.wm_valid.proofs.answer.global_types.Given as goal

abbrev pub invariant-loop-global : goal.invariant-loop-global
invariant-loop-global l = l.types.items ≡ map (λ g. g.kind) (take l.global-index l.globals)
