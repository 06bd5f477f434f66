use Rattle.std.proofs.Common.{◌≡◌, take}
use Rattle.std.specs.Prelude.{map}
use Rattle.wm_semantics.specs.Instance.{constant_of}
use Rattle.wm_instance.proofs.constants.globals_of.Given as goal

abbrev pub invariant-loop-global : goal.invariant-loop-global
invariant-loop-global l = l.values.items ≡ map (λ g. constant_of g.init) (take l.global-index l.globals)
