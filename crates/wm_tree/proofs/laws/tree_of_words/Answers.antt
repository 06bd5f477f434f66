use Rattle.wm_tree.proofs.Trees.{tree_of-flatten}
use Rattle.wm_tree.proofs.laws.tree_of_words.Goals as goal

pub returns : goal.returns
returns c = tree_of-flatten
