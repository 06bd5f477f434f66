use Rattle.std.proofs.Common.{refl}
use Rattle.std.proofs.lemmas.Result.{err_from_is_err_and}
use Rattle.ic_mgmt_laws.specs.Rows.{updates}
use Rattle.ic_mgmt.proofs.Refusals.{refused, refused_at}
use Rattle.ic_mgmt.proofs.settings.update_settings.Goals as goal

pub returns-in_err-set_controllers-clause-does : goal.returns-in_err-set_controllers-clause-does
returns-in_err-set_controllers-clause-does c =
    let call = c.args.call.now in
    let e = c.in_err-set_controllers.field-0.0 in
    let p = err_from_is_err_and c.from_residual.result c.from_residual.ensures.1 in
    rw (p.1, p.2) (refused_at call c.args.id c.args.canister.now e c.set_controllers.new.canister (λ now s. updates s call c.args.id c.args.named)
    (λ now s. refused {A = Unit {0}} (λ u. c.set_controllers.new.canister.controllers) _ _ e call s s c.in_err-set_controllers.ensures.set refl) c.in_err-set_controllers.ensures.same)
