use Rattle.std.proofs.Common.{◌≡◌, [], length, sym, ap, ◌∙◌, subst}
use Rattle.ic_behaviour.specs.State.{State}
use Rattle.ic_behaviour.specs.Steps.{along}
use Rattle.ic_behaviour.specs.Round.{second_phase}
use Rattle.ic_mgmt_laws.specs.Managed.{managed_rules}
use Rattle.ic_mgmt.proofs.Sweeps.{none_goes}
use Rattle.ic_mgmt.proofs.second.outside_turns.Goals as goal

pub returns-then-idle-clause-state : goal.returns-then-idle-clause-state
returns-then-idle-clause-state c =
    λ price.
    let rules = managed_rules c.args.limit price in
    let none = subst (λ (s : State). second_phase rules s ≡ []) c.parts.ensures.state (none_goes rules c.parts.result.now (sym c.all_inside-idle.ensures ∙ c.if-idle.true)) in
    sym (ap (along rules c.args.world) none)

pub returns-then-idle-clause-handled : goal.returns-then-idle-clause-handled
returns-then-idle-clause-handled c =
    λ price.
    let rules = managed_rules c.args.limit price in
    let none = subst (λ (s : State). second_phase rules s ≡ []) c.parts.ensures.state (none_goes rules c.parts.result.now (sym c.all_inside-idle.ensures ∙ c.if-idle.true)) in
    sym (ap length none)
