use Rattle.std.proofs.Common.{length, sym, ap, ◌∙◌, subst}
use Rattle.ic_behaviour.specs.State.{State}
use Rattle.ic_state.specs.Seen.{state_of}
use Rattle.ic_state.specs.IsWorld.{IsWorld}
use Rattle.ic_behaviour.specs.Steps.{along}
use Rattle.ic_behaviour.specs.Round.{second_phase}
use Rattle.ic_mgmt_laws.specs.Managed.{managed_rules}
use Rattle.ic_mgmt.proofs.Sweeps.{reaches_end}
use Rattle.ic_mgmt.proofs.second.swept.Goals as goal

pub seal-requires : goal.seal-requires
seal-requires c = subst IsWorld (sym c.in_ok-parts.ensures) c.in_ok-kept.ensures.reaches.keeps

pub returns-clause-state : goal.returns-clause-state
returns-clause-state c =
    λ price.
    let rules = managed_rules c.args.limit price in
    c.seal.ensures ∙ ap state_of c.in_ok-parts.ensures
    ∙ (reaches_end c.args.limit price c.open.result _ _ _ c.in_ok-kept.ensures.reaches).0
    ∙ ap (λ (t : State). along rules t (second_phase rules t)) c.open.ensures.state

pub returns-clause-handled : goal.returns-clause-handled
returns-clause-handled c =
    λ price.
    (reaches_end c.args.limit price c.open.result _ _ _ c.in_ok-kept.ensures.reaches).1
    ∙ ap (λ (t : State). length (second_phase (managed_rules c.args.limit price) t)) c.open.ensures.state
