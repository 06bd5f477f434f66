use Rattle.std.proofs.Common.{◌≡◌, ◌∙◌, ◌+◌, ◌-◌, ap, sym, arith, drop, length, map, Bor}
use Rattle.std.specs.BTreeMap.{insert_entry}
use Rattle.std.specs.Ordering.{nat_cmp}
use Rattle.std.specs.Cmp.Lexicographic.{slice_cmp}
use Rattle.std.proofs.lemmas.List.{drop_all}
use Rattle.ic_behaviour.specs.declared.request.Request.{Request}
use Rattle.ic_tree.specs.StateTree.{by_id, part_of, request_part}
use Rattle.ic_tree.proofs.Order.{map_entries}
use Rattle.ic_tree.proofs.Requests.{one_more}
use Rattle.ic_tree.proofs.state.in_order.Goals as goal

pub loop-left-init : goal.loop-left-init
unfolding by_id
loop-left-init c =
    let rs = c.args.requests.now in
    (omega arith, ap (map part_of) c.new-order.ensures.empty ∙ ap (by_id (length rs)) (sym (drop_all (length rs) rs (omega arith))))

pub loop-left-preserved : goal.loop-left-preserved
loop-left-preserved c =
    let rs = c.args.requests.now in
    let r = c.index-requests-left.result in
    let number = c.loop-left.left - 1 in
    let next : c.loop-left.left ≡ number + 1 = omega arith in
    let before : map part_of c.loop-left.order.entries ≡ by_id (number + 1) (drop (number + 1) rs) =
    c.loop-left.invariant.1 ∙ ap (λ n. by_id n (drop n rs)) next in (
      omega arith,
      ap (map part_of) c.in_ok-insert.ensures.entries
          ∙ (map_entries (slice_cmp nat_cmp) (λ (lent : Bor Request). request_part lent.now.answer) c.loop-left.order.entries c.in_ok-id.id _
          ∙ ((λ i. insert_entry (slice_cmp nat_cmp) (before i) (c.in_ok-id.ensures i) (request_part r.answer))
          ∙ one_more rs r number (omega arith) c.index-requests-left.is)),
    )
