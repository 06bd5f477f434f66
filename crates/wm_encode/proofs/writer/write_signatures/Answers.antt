use Rattle.std.proofs.Common.{◌∙◌, subst, ap}
use Rattle.std.specs.List.{All}
use Rattle.wm_encode.specs.Ranges.{RangedImport}
use Rattle.wm_encode.proofs.writer.write_signatures.Goals as goal

pub returns-clause-imports : goal.returns-clause-imports
returns-clause-imports c = subst (λ xs. All RangedImport xs) (c.deref-2.ensures.value ∙ ap (λ m. m.imports) c.module.view_is) c.in_ok-write_part-2.ensures.ranged
