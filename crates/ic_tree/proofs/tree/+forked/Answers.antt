use Rattle.std.proofs.Common.{◌≡◌, ◌≤◌, ◌<◌, ◌∙◌, ap, ap₂, sym, subst, rules, map, take, drop, length, []}
use Rattle.std.proofs.lemmas.List.{drop-map, length-map, take-map}
use Rattle.std.proofs.lemmas.Result.{IfOk-weaker}
use Rattle.ic_tree.specs.HashTree.{fork, forked, half}
use Rattle.ic_tree.specs.View.{view}
use Rattle.ic_tree.proofs.Forks.{forked_is, one_tree, no_tree}
use Rattle.ic_tree.proofs.tree.+forked.Goals as goal

pub returns-then-count-gt1 : goal.returns-then-count-gt1
returns-then-count-gt1 t c =
    let items = c.args.trees.items in
    let len : c.len-count.result ≡ length items = search rules in
    let count : c.len-count.result ≡ length (map view items) = len ∙ sym (length-map items view) in
    let left : map view c.split_off.new.self.items ≡ take (half (length (map view items))) (map view items) =
    ap (map view) c.in_ok-right.ensures.items ∙ (sym (take-map view (half c.len-count.result) items) ∙ ap (λ n. take (half n) (map view items)) count) in
    let right : map view c.in_ok-right.right.items ≡ drop (half (length (map view items))) (map view items) =
    ap (map view) c.in_ok-right.ensures.tail ∙ (sym (drop-map view (half c.len-count.result) items) ∙ ap (λ n. drop (half n) (map view items)) count) in
    let two : 1 < length (map view items) = subst (λ n. 1 < n) count c.if-count-gt1.true in
    IfOk-weaker c.fork.result _ _ (λ tree h. h ∙ (ap₂ fork (c.in_ok-left.ensures ∙ ap forked left) (c.in_ok-right-2.ensures ∙ ap forked right)
    ∙ sym (forked_is (map view items) two))) c.fork.ensures

pub returns-in-Some : goal.returns-in-Some
returns-in-Some t c =
    let len : c.len-count.result ≡ length c.args.trees.items = search rules in
    one_tree c.pop.new.self.items c.args.trees.items c.in-Some.tree c.in-Some.ensures.items (subst (λ n. n ≤ 1) len c.if-count-gt1.false)

pub returns : goal.returns
returns t c =
    let none : c.args.trees.items ≡ [] = search rules in
    no_tree c.args.trees.items none
