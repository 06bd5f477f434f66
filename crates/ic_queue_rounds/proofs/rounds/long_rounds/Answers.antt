use Rattle.std.proofs.Common.{length, sym, ap, ◌∙◌}
use Rattle.std.proofs.lemmas.Bool.{eqb-true}
use Rattle.ic_behaviour.specs.State.{State}
use Rattle.ic_mgmt_laws.specs.Managed.{managed_rules}
use Rattle.ic_queue_rounds.proofs.Roundings.{Rounding-start, Rounding-none, Rounding-all}
use Rattle.ic_queue_rounds.proofs.rounds.long_rounds.Goals as goal

pub returns-then-count-eq0-clause-state : goal.returns-then-count-eq0-clause-state
returns-then-count-eq0-clause-state g c =
    let rules = managed_rules c.args.charge.limit c.args.charge.price in
    (Rounding-all rules c.args.count 0 c.args.world c.args.world (Rounding-start rules c.args.count c.args.world) (sym c.if-count-eq0.true)).0

pub returns-then-count-eq0-clause-made : goal.returns-then-count-eq0-clause-made
returns-then-count-eq0-clause-made g c =
    let rules = managed_rules c.args.charge.limit c.args.charge.price in
    sym c.if-count-eq0.true
    ∙ (Rounding-all rules c.args.count 0 c.args.world c.args.world (Rounding-start rules c.args.count c.args.world) (sym c.if-count-eq0.true)).1

pub returns-then-is_empty-clause-state : goal.returns-then-is_empty-clause-state
returns-then-is_empty-clause-state g c =
    let rules = managed_rules c.args.charge.limit c.args.charge.price in
    (Rounding-none rules c.args.count 0 c.args.world c.args.world (Rounding-start rules c.args.count c.args.world)
    (sym (ap (λ (s : State). length s.messages) c.parts.ensures.state) ∙ eqb-true (length c.parts.result.now.messages) 0 (sym c.is_empty.ensures ∙ c.if-is_empty.true))).0

pub returns-then-is_empty-clause-made : goal.returns-then-is_empty-clause-made
returns-then-is_empty-clause-made g c =
    let rules = managed_rules c.args.charge.limit c.args.charge.price in
    (Rounding-none rules c.args.count 0 c.args.world c.args.world (Rounding-start rules c.args.count c.args.world)
    (sym (ap (λ (s : State). length s.messages) c.parts.ensures.state) ∙ eqb-true (length c.parts.result.now.messages) 0 (sym c.is_empty.ensures ∙ c.if-is_empty.true))).1
