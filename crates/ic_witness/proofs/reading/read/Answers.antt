use Rattle.std.proofs.Common.{◌∙◌, sym}
use Rattle.ic_base.proofs.Steps.{some_is}
use Rattle.ic_tree.specs.View.{view}
use Rattle.ic_witness.proofs.Trees.{not_none, text_again, text_found}
use Rattle.ic_witness.proofs.reading.read.Goals as goal

pub returns-in-Ok-clause-found : goal.returns-in-Ok-clause-found
returns-in-Ok-clause-found c = text_found (view c.in-Ok.tree) c.args.bytes.now c.in-Ok.ensures

pub returns-in-Ok-clause-only : goal.returns-in-Ok-clause-only
returns-in-Ok-clause-only c = λ tree is. some_is _ _ (sym c.in-Ok.ensures ∙ text_again tree c.args.bytes.now is)

pub returns-in-Err-Refused-clause-only : goal.returns-in-Err-Refused-clause-only
returns-in-Err-Refused-clause-only c = λ tree is. not_none tree (rw c.in-Err-Refused.field-0-is at c.in-Err-Refused.ensures) (text_again tree c.args.bytes.now is)
