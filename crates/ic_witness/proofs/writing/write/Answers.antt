use Rattle.std.proofs.Common.{rules}
use Rattle.ic_witness.proofs.Trees.{written_text}
use Rattle.ic_witness.proofs.writing.write.Goals as goal

pub returns-clause-grammar : goal.returns-clause-grammar
returns-clause-grammar c = written_text _ _ c.requires.deep c.in_ok-push_tree.ensures.fits (search rules)
