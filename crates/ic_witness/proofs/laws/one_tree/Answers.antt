use Rattle.ic_witness.proofs.Trees.{one_text}
use Rattle.ic_witness.proofs.laws.one_tree.Goals as goal

pub returns : goal.returns
returns c = one_text
