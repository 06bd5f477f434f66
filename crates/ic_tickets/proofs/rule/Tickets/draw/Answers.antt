use Rattle.std.proofs.Common.{◌<◌, length, refl, ap, ◌∙◌, arith}
use mathlib.Core.Option.{none}
use Rattle.atomic_table.specs.Table.{step}
use Rattle.ic_tickets.proofs.Steps.{draws}
use Rattle.ic_tickets.proofs.Draws.{in-hand, seated-again, draws-is}
use Rattle.ic_tickets.proofs.rule.Tickets.draw.Goals as goal

pub fetch_add-number-requires : goal.fetch_add-number-requires
fetch_add-number-requires g c =
    let t = c.args.self.now in
    let p = c.args.pass.now in
    (c.requires.own.0, omega (arith, t.sized.0), draws _ _ _ _ p.seat.me (step t.table.shared.table_id.slots 0 1 0 none) c.requires.own.1 p.seated c.requires.is_open)

pub exchange-item-requires : goal.exchange-item-requires
exchange-item-requires g c =
    let less : c.fetch_add-number.result < length c.args.pass.now.seat.me.0.items = omega (arith, c.if-number-slot_count.false, c.slot_count.ensures, c.args.self.now.sized.1, ap (λ l. length l) c.requires.own.1) in
    let drawn = c.fetch_add-number.ensures.2.0 less in
    (c.fetch_add-number.ensures.0 ∙ c.requires.own.0, in-hand c.args.pass.now.seat.me c.fetch_add-number.result c.fetch_add-number.new.seat.me drawn)

pub invariant_of-pass-2 : goal.invariant_of-pass-2
invariant_of-pass-2 g c =
    let less : c.fetch_add-number.result < length c.args.pass.now.seat.me.0.items = omega (arith, c.if-number-slot_count.false, c.slot_count.ensures, c.args.self.now.sized.1, ap (λ l. length l) c.requires.own.1) in
    let drawn = c.fetch_add-number.ensures.2.0 less in
    record { seated = seated-again c.args.pass.now.seat.me c.fetch_add-number.result c.fetch_add-number.new.seat.me drawn c.exchange-item.new.seat.me c.exchange-item.ensures.3 c.args.pass.now.seated }

pub returns-clause-some : goal.returns-clause-some
returns-clause-some g c =
    let less : c.fetch_add-number.result < length c.args.pass.now.seat.me.0.items = omega (arith, c.if-number-slot_count.false, c.slot_count.ensures, c.args.self.now.sized.1, ap (λ l. length l) c.requires.own.1) in
    let drawn = c.fetch_add-number.ensures.2.0 less in
    draws-is c.args.pass.now.seat.me c.fetch_add-number.result c.fetch_add-number.new.seat.me drawn c.exchange-item.new.seat.me c.exchange-item.ensures.3
    _ c.args.pass.now _ c.unwrap.result c.exchange-item.result refl refl c.requires.own.1 (omega (arith, less, ap (λ l. length l) c.requires.own.1)) c.requires.is_open c.exchange-item.ensures.2 c.unwrap.ensures
