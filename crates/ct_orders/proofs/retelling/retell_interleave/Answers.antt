use Rattle.std.proofs.Common.{◌≡◌, ◌≤◌, false, length, sym, ap, ◌∙◌, arith}
use Rattle.std.specs.Prelude.{is_some}
use Rattle.ct_cases.proofs.AllSent.{all_sent}
use Rattle.ct_orders.proofs.retelling.retell_interleave.Goals as goal

pub retell_submitted-requires-after_bounds : goal.retell_submitted-requires-after_bounds
retell_submitted-requires-after_bounds g c κs known =
    let sent = c.in_ok-world.field-0 in
    let none : is_some sent.unsent ≡ false = sym c.is_some.ensures ∙ c.if-is_some.false in
    let least : length c.deref-2.result.now ≤ length sent.accepted.items = all_sent _ _ _ _ c.deref-2.result.now sent.accepted.items sent.unsent c.in_ok-world.ensures none in
    let moves : c.deref-3.result.now ≡ c.deref-2.result.now = c.deref-3.ensures.value ∙ sym c.deref-2.ensures.value in
    let accepted : c.deref-4.result.now ≡ sent.accepted.items = c.deref-4.ensures.value in
    omega (arith, least, ap length moves, ap length accepted)
