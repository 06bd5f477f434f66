use Rattle.std.proofs.Common.{◌∙◌, subst, ap}
use Rattle.std.specs.List.{All}
use Rattle.wm_encode.specs.Ranges.{RangedGlobal}
use Rattle.wm_encode.proofs.writer.write_spaces.Goals as goal

pub returns-clause-globals : goal.returns-clause-globals
returns-clause-globals c = subst (λ xs. All RangedGlobal xs) (c.deref-3.ensures.value ∙ ap (λ m. m.globals) c.module.view_is) c.in_ok-write_part-3.ensures.ranged
