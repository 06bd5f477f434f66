use Rattle.std.proofs.Common.{Some, ap, sym, ◌∙◌}
use Rattle.ic_state.specs.declared.canister.Canister.{Canister}
use Rattle.ic_mgmt.proofs.Orders.{permits, permits_none}
use Rattle.ic_mgmt.proofs.managing.permit.Goals as goal

pub returns-in-Some-get : goal.returns-in-Some-get
returns-in-Some-get c =
    let stands = sym c.in-Some-get.ensures.value ∙ ap (λ (d : Canister). Some d) (sym c.get-in-Some-get.ensures) in
    c.permitted-in-Some-get.ensures
    ∙ sym (permits c.args.parts.now c.args.sender.now c.args.demand.now c.in-Some.id (sym c.target.ensures ∙ c.in-Some.is) c.get-in-Some-get.result.now stands)

pub returns-in-None : goal.returns-in-None
returns-in-None c = sym (permits_none c.args.parts.now c.args.sender.now c.args.demand.now c.in-Some.id (sym c.target.ensures ∙ c.in-Some.is) (sym c.in-None.ensures.value))
