use Rattle.std.proofs.Common.{refl, sym, subst, arith}
use Rattle.std.specs.List.{AllByRecursion}
use Rattle.atomic_table.specs.Table.{Splits}
use Rattle.ic_tickets.specs.Rule.{Kept, split_left, split_right}
use Rattle.ic_tickets.proofs.Opens.{Opens-cuts, Opens-all, fresh, IsNew}
use Rattle.ic_tickets.proofs.calls.handed_out.Goals as goal

pub split_seat-other-requires : goal.split_seat-other-requires
split_seat-other-requires g c =
    let so_far = c.loop-made.invariant.opens in (
      so_far.here,
      omega (arith, c.requires.sized.0),
      subst (λ n. Splits (Kept c.args.table.shared.key.items.value.items n) c.loop-made.seat.id c.loop-made.seat.me.0 (split_left c.loop-made.seat.me.0) (split_right c.loop-made.seat.me.0))
          (sym c.requires.workers) (Opens-cuts _ _ _ _ _ _ _ so_far c.loop-made-test.true c.loop-made.seat.id),
    )

pub returns-clause-passes : goal.returns-clause-passes
returns-clause-passes g c =
    let z = c.args.table.shared.table_id in
    let items = c.args.table.shared.key.items.value.items in
    let so_far = c.loop-made.invariant.opens in
    let all = Opens-all z items c.args.workers _ _ _ _ so_far (omega (arith, c.loop-made-test.false)) (omega (arith, c.requires.sized.3, c.requires.workers)) (omega (arith, c.loop-made.auto.made, c.loop-made.auto.made-end)) _ refl refl in
    fresh z items c.args.workers (record { table = c.args.table; sized = c.requires.sized }) refl refl c.push_reserved-2.new.self.items (subst (AllByRecursion (IsNew z items c.args.workers)) (sym c.push_reserved-2.ensures.items) all)
