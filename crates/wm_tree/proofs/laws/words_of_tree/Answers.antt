use Rattle.std.proofs.Common.{sym, subst, ap, ◌∙◌}
use Rattle.wm_tree.specs.Seq.{IsProper, flatten}
use Rattle.wm_tree.specs.TreeOf.{tree_of}
use Rattle.wm_tree.proofs.Trees.{tree_of-flatten}
use Rattle.wm_tree.proofs.laws.words_of_tree.Goals as goal

pub returns-clause-proper : goal.returns-clause-proper
returns-clause-proper c words h =
    subst IsProper (sym (ap tree_of h.whole ∙ tree_of-flatten h.tree h.proper)) h.proper

pub returns-clause-same : goal.returns-clause-same
returns-clause-same c words h = ap flatten (ap tree_of h.whole ∙ tree_of-flatten h.tree h.proper) ∙ sym h.whole
