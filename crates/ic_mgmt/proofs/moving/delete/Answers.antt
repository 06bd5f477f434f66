use Rattle.std.proofs.Common.{Some, refl, ap, sym, ◌∙◌, arith}
use Rattle.std.proofs.lemmas.Result.{err_from_is_err_and}
use Rattle.ic_state.specs.declared.canister.Canister.{Canister}
use Rattle.ic_state.specs.Seen.{state_of}
use Rattle.ic_mgmt_laws.specs.Rows.{deletes}
use Rattle.ic_mgmt.proofs.Refusals.{denied}
use Rattle.ic_mgmt.proofs.Worlds.{at_none, at_some}
use Rattle.ic_mgmt.proofs.Makes.{burned_fits, gone_is, deletes_is, keeps_gone}
use Rattle.ic_mgmt.proofs.moving.delete.Goals as goal

pub returns-in_default-clause-does : goal.returns-in_default-clause-does
returns-in_default-clause-does c =
    (at_none c.args.parts.now c.args.id (deletes (state_of c.args.parts.now) c.args.call.now c.args.id) (sym c.in_default.ensures.value), refl)

pub returns-in_err-unless_stopped-clause-does : goal.returns-in_err-unless_stopped-clause-does
returns-in_err-unless_stopped-clause-does c =
    let call = c.args.call.now in
    let s = state_of c.args.parts.now in
    let p = err_from_is_err_and c.from_residual.result c.from_residual.ensures.1 in
    let stands = sym c.in-Some.ensures.value ∙ ap (λ (d : Canister). Some d) (sym c.get-canister.ensures) in
    rw (p.1, p.2) (at_some c.args.parts.now c.args.id c.get-canister.result.now stands (deletes s call c.args.id) ∙ denied _ _ _ c.in_err-unless_stopped.ensures, refl)

pub overflow_add-parts : goal.overflow_add-parts
overflow_add-parts c =
    let stands = sym c.in-Some.ensures.value ∙ ap (λ (d : Canister). Some d) (sym c.get-canister.ensures) in
    omega (arith, burned_fits c.args.parts.now c.args.id c.args.call.now.cycles c.requires.holds c.get-canister.result.now stands)

pub returns-clause-does : goal.returns-clause-does
returns-clause-does c =
    let call = c.args.call.now in
    let d = c.get-canister.result.now in
    let stands = sym c.in-Some.ensures.value ∙ ap (λ (d : Canister). Some d) (sym c.get-canister.ensures) in
    at_some c.args.parts.now c.args.id d stands (deletes (state_of c.args.parts.now) call c.args.id)
    ∙ deletes_is call c.args.parts.now c.args.id d c.remove.new.self _ c.in_ok-done.field-0 (sym c.in_ok-unless_stopped.ensures)
    (gone_is call c.args.parts.now c.args.id d c.remove.new.self c.remove.ensures.entries) c.in_ok-done.ensures

pub returns-clause-keeps : goal.returns-clause-keeps
returns-clause-keeps c = keeps_gone c.args.parts.now _ c.args.id c.remove.ensures.entries c.requires.holds.canisters
