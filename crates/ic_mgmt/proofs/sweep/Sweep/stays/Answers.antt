use Rattle.std.proofs.Common.{◌≡◌, false, sym, ap, ◌∙◌}
use Rattle.std.specs.Prelude.{is_some}
use Rattle.std.specs.List.{list_any}
use Rattle.std.specs.Map.{lookup}
use Rattle.ic_behaviour.specs.State.{at, callee_of}
use Rattle.ic_mgmt.specs.Ways.{is_way}
use Rattle.ic_mgmt.proofs.sweep.Sweep.stays.Goals as goal

pub returns-else-contains_key : goal.returns-else-contains_key
returns-else-contains_key c =
    let w = c.args.self.now in
    let none : is_some (lookup (at (callee_of c.args.message.now)) w.rest.canisters.entries) ≡ false =
    ap (λ k. is_some (lookup (at k) w.rest.canisters.entries)) (sym c.callee-callee.ensures) ∙ sym c.contains_key.ensures ∙ c.if-contains_key.false in
    let is_sender = c.sender.ensures in
    let is_callee = c.callee-callee.ensures in
    rw none (c.contains.ensures ∙ c.requires.ways (c.sender.result, c.callee-callee.result) ∙ (λ i. list_any (is_way (is_sender i, is_callee i)) w.kept))
