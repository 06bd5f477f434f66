use Rattle.std.proofs.Common.{◌∙◌, subst, ap}
use Rattle.std.specs.List.{All}
use Rattle.wm_encode.specs.Ranges.{RangedCode}
use Rattle.wm_encode.proofs.writer.write_contents.Goals as goal

pub returns-clause-codes : goal.returns-clause-codes
returns-clause-codes c = subst (λ xs. All RangedCode xs) (c.deref.ensures.value ∙ ap (λ m. m.codes) c.module.view_is) c.in_ok-write_part.ensures.ranged
