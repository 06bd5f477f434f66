use Rattle.wm_tree.proofs.Trees.{past_is}
use Rattle.wm_tree.proofs.laws.place_behind.Goals as goal

pub returns : goal.returns
returns c = past_is
