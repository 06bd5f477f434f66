use Rattle.std.proofs.Common.{◌∙◌, subst, ap}
use Rattle.std.specs.List.{All}
use Rattle.wm_encode.specs.Ranges.{RangedExport}
use Rattle.wm_encode.proofs.writer.write_entries.Goals as goal

pub returns-clause-exports : goal.returns-clause-exports
returns-clause-exports c = subst (λ xs. All RangedExport xs) (c.deref.ensures.value ∙ ap (λ m. m.exports) c.module.view_is) c.in_ok-write_part.ensures.ranged
