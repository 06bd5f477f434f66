use Rattle.std.proofs.Common.{List, get_or, ap, ◌∙◌, arith}
use Rattle.std.proofs.lemmas.Result.{err_from_is_err_and}
use Rattle.ct_names.specs.declared.role.Role.{Role}
use Rattle.ct_names.specs.declared.role.Role.TheVariants.{Other}
use Rattle.ct_check.proofs.Names.{names_more, names_fault, names_end}
use Rattle.ct_check.proofs.checker.Checker.names.Goals as goal

pub returns-in_err-slot : goal.returns-in_err-slot
returns-in_err-slot c =
    let p = err_from_is_err_and c.from_residual-in_err-slot.result c.from_residual-in_err-slot.ensures.1 in
    let is = c.role_at.ensures ∙ ap (λ (roles : List Role). get_or roles c.loop-index.index Other) c.deref.ensures.value in
    rw (p.1, p.2) (names_fault c.in_err-slot.field-0.0 c.args.lets c.loop-index.slots.items c.loop-index.self c.in_ok-roles.roles.items c.args.tokens.now c.loop-index.index c.index-tokens-index.result c.role_at.result _
    c.in_ok-roles.ensures c.loop-index-test.true c.index-tokens-index.is is c.in_err-slot.ensures c.loop-index.invariant)

pub loop-index-preserved : goal.loop-index-preserved
loop-index-preserved c =
    let is = c.role_at.ensures ∙ ap (λ (roles : List Role). get_or roles c.loop-index.index Other) c.deref.ensures.value in
    names_more c.args.lets c.loop-index.slots.items c.push_slot.new.slots.items c.loop-index.self c.name_token.new.self c.in_ok-roles.roles.items c.args.tokens.now c.loop-index.index c.index-tokens-index.result c.role_at.result c.in_ok-slot.slot _
    c.in_ok-roles.ensures c.loop-index-test.true c.index-tokens-index.is is c.in_ok-slot.ensures c.in_ok-push_slot.ensures c.loop-index.invariant

pub returns : goal.returns
returns c = names_end c.args.lets c.loop-index.slots.items c.loop-index.self c.in_ok-roles.roles.items c.args.tokens.now c.loop-index.index _ (omega (arith, c.loop-index-test.false)) c.loop-index.invariant
