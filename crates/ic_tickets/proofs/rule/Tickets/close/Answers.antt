use Rattle.std.proofs.Common.{◌≡◌, ◌++◌, length, ap, ◌∙◌, arith, option_to_list}
use mathlib.Core.Option.{none}
use Rattle.atomic_table.specs.Table.{step}
use Rattle.ic_tickets.specs.Rule.{joined}
use Rattle.ic_tickets.proofs.Steps.{lays-out, joins, last}
use Rattle.ic_tickets.proofs.Closes.{Closes-first, Closes-own, Closes-more, Closes-last}
use Rattle.ic_tickets.proofs.rule.Tickets.close.Goals as goal

pub loop-seat-init : goal.loop-seat-init
loop-seat-init g c =
    Closes-first c.args.self c.args.passes.items c.pop.new.self.items c.unwrap-kept.result c.requires.own (omega (arith, c.requires.all, c.args.passes.ok.0))
    (c.pop.ensures.items ∙ ap (λ o. c.pop.new.self.items ++ option_to_list o) c.unwrap-kept.ensures)

pub load-requires : goal.load-requires
load-requires g c =
    let p = c.in-Some.field-0 in
    let own = Closes-own c.args.self c.args.passes.items c.loop-seat.passes.items c.pop-in-loop-seat.new.self.items _ _ p c.loop-seat.invariant c.in-Some.ensures.items in
    (own.0, omega (arith, c.args.self.sized.0), lays-out _ _ _ _ p.seat.me (step c.args.self.table.shared.table_id.slots 0 0 0 none) own.1 p.seated)

pub join_seat-requires : goal.join_seat-requires
join_seat-requires g c =
    let p = c.in-Some.field-0 in
    let own = Closes-own c.args.self c.args.passes.items c.loop-seat.passes.items c.pop-in-loop-seat.new.self.items _ _ p c.loop-seat.invariant c.in-Some.ensures.items in (
      c.loop-seat.invariant.here,
      c.load.ensures.0 ∙ own.0,
      ap (λ m. m.1) c.load.ensures.2 ∙ p.seated.1,
      omega (arith, c.args.self.sized.0),
      joins _ _ _ _ _ _ c.loop-seat.invariant.has c.loop-seat.invariant.items,
    )

pub loop-seat-preserved : goal.loop-seat-preserved
loop-seat-preserved g c =
    let p = c.in-Some.field-0 in
    Closes-more c.args.self c.args.passes.items c.loop-seat.passes.items c.pop-in-loop-seat.new.self.items _ _ _ _ p c.loop-seat.invariant c.in-Some.ensures.items c.join_seat.ensures.0
    (c.join_seat.ensures.2 ∙ ap (λ m. (joined c.loop-seat.kept.me.0 m.0, c.loop-seat.kept.me.1)) c.load.ensures.2)

pub returns-clause-once : goal.returns-clause-once
returns-clause-once g c =
    let end = c.loop-seat.invariant in
    let over : length c.loop-seat.passes.items ≡ 0 = omega (arith, c.in_default.ensures.cases.0, c.loop-seat.passes.ok.0) in
    let all = last _ _ _ _ _ _ c.close_with.ensures.values (omega (arith, end.share, over)) in
    (Closes-last c.args.self c.args.passes.items _ _ c.loop-seat.passes.items end over all.0 all.1).0

pub returns-clause-whole : goal.returns-clause-whole
returns-clause-whole g c =
    let end = c.loop-seat.invariant in
    let over : length c.loop-seat.passes.items ≡ 0 = omega (arith, c.in_default.ensures.cases.0, c.loop-seat.passes.ok.0) in
    let all = last _ _ _ _ _ _ c.close_with.ensures.values (omega (arith, end.share, over)) in
    (Closes-last c.args.self c.args.passes.items _ _ c.loop-seat.passes.items end over all.0 all.1).1
