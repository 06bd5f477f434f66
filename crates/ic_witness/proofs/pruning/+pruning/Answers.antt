use Rattle.std.proofs.Common.{◌≡◌, ◌∙◌, sym}
use Rattle.std.proofs.lemmas.Result.{IfOk-weaker}
use Rattle.ic_tree.specs.View.{view}
use Rattle.ic_witness.specs.Needed.{is_among, labels_at, paths_at}
use Rattle.ic_witness.specs.Prune.{cut, prune}
use Rattle.ic_witness.proofs.Neighbors.{chosen_cut}
use Rattle.ic_witness.proofs.pruning.+pruning.Goals as goal

pub pruned-returns : goal.pruned-returns
pruned-returns t c =
    let tree = view c.args.tree.now in
    let paths = paths_at c.args.paths.now in
    IfOk-weaker c.cut.result (λ made. view made ≡ cut tree (is_among (labels_at c.deref.result.now)) paths) (λ made. view made ≡ prune tree paths)
    (λ made e. chosen_cut tree (view made) c.args.paths.now (labels_at c.deref.result.now)
    (sym c.is_bare.ensures ∙ c.if-is_bare.false) (sym c.has_empty.ensures ∙ c.if-has_empty.false) (sym c.is_empty.ensures ∙ c.if-is_empty.false) (sym c.is_one_leaf.ensures ∙ c.if-is_one_leaf.false)
    (rw c.deref.ensures.value c.in_ok-needed.ensures) e) c.cut.ensures
