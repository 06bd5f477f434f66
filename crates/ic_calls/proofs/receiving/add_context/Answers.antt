use Rattle.std.proofs.Common.{ap, sym, ◌∙◌, Some}
use Rattle.ic_state.specs.declared.canister.Canister.{Canister}
use Rattle.ic_calls.proofs.Receives.{call_keeps, call_place}
use Rattle.ic_calls.proofs.receiving.add_context.Goals as goal

pub returns-clause-place : goal.returns-clause-place
returns-clause-place c =
    let a : Canister = c.args.canister.now in
    call_place a (record a { contexts = c.open_context.new.contexts }) c.args.origin.now c.args.sender.now c.args.cycles c.requires.fresh
    (ap (λ xs. record a { contexts = xs }) c.in_ok-open_context.ensures.ok)
    ∙ ap (λ n. Some n) (sym c.count-place.ensures)

pub returns-clause-keeps : goal.returns-clause-keeps
returns-clause-keeps c =
    let a : Canister = c.args.canister.now in
    call_keeps a (record a { contexts = c.open_context.new.contexts }) c.args.origin.now c.args.sender.now c.args.cycles c.requires.keeps c.requires.fresh c.requires.code c.requires.room
    (ap (λ xs. record a { contexts = xs }) c.in_ok-open_context.ensures.ok)
