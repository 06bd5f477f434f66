use Rattle.ic_witness.proofs.Trees.{text_again, text_found}
use Rattle.ic_witness.proofs.laws.trees_read.Goals as goal

pub returns : goal.returns
returns c = λ tree bytes. (text_found tree bytes, text_again tree bytes)
