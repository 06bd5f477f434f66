use Rattle.std.proofs.Common.{◌≡◌, ◌∙◌, ◌/◌, ◌∷◌, ap, ap₂, arith, drop, map, rules, sym, take}
use Rattle.ic_tree.specs.HashTree.{fork, forked, half}
use Rattle.ic_tree.specs.StateTree.{kept, lent_tree}
use Rattle.ic_tree.specs.View.{view}
use Rattle.ic_tree.proofs.Forks.{forked_first, forked_one, kept_fork}
use Rattle.ic_tree.proofs.state.+forked_requests.Goals as goal

pub returns-then-count-gt1-clause-tree : goal.returns-then-count-gt1-clause-tree
returns-then-count-gt1-clause-tree t c =
    let keep = c.args.keep in
    let n = c.args.count in
    let es = c.args.order.now in
    let right : view c.in_ok-right.right ≡ kept keep (forked (map lent_tree (take (n / 2) (drop (half n) es)))) =
    c.in_ok-right.ensures.tree ∙ ap (λ l. kept keep (forked (map lent_tree (take (n / 2) l)))) c.in_ok-left.ensures.rest in
    c.keep.ensures ∙ (ap (kept keep) (c.in_ok-fork.ensures ∙ ap₂ fork c.in_ok-left.ensures.tree right)
    ∙ (kept_fork keep _ _ ∙ ap (kept keep) (sym (forked_first lent_tree es n (omega arith) c.requires.within))))

pub returns-in_ok-request_tree-in-Some-clause-tree : goal.returns-in_ok-request_tree-in-Some-clause-tree
returns-in_ok-request_tree-in-Some-clause-tree t c =
    let is : c.args.order.now ≡ c.in-Some.entry ∷ c.next.new.self = search rules in
    let one = forked_one lent_tree c.args.order.now c.next.new.self c.in-Some.entry c.args.count is c.requires.some c.if-count-gt1.false in
    c.keep-in-Some.ensures ∙ ap (kept c.args.keep) (c.in_ok-request_tree-in-Some.ensures ∙ one.1)
