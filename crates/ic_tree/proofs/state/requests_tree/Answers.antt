use Rattle.std.proofs.Common.{◌≡◌, ◌∙◌, ap, arith, length, map, rules, sym}
use Rattle.std.proofs.lemmas.Result.{IfOk-weaker}
use Rattle.ic_tree.specs.StateTree.{by_id, kept, part_of}
use Rattle.ic_tree.proofs.Requests.{all_lent}
use Rattle.ic_tree.proofs.state.requests_tree.Goals as goal

pub returns-in_default : goal.returns-in_default
returns-in_default c =
    let rs = c.args.requests.now in
    let given : c.into_iter.result ≡ c.in_ok-order.order.entries = search rules in
    let all : c.len.result ≡ length c.in_ok-order.order.entries = search rules in
    let long : length c.into_iter.result ≡ c.len.result = ap length given ∙ sym all in
    let in_order : map part_of c.into_iter.result ≡ by_id 0 rs = ap (map part_of) given ∙ c.in_ok-order.ensures in
    IfOk-weaker c.forked_requests.result _ _
    (λ tree h. h ∙ ap (kept c.args.keep) (all_lent c.into_iter.result rs c.len.result (omega arith) in_order)) c.forked_requests.ensures.tree
