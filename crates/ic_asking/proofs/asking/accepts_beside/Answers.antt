use Rattle.std.proofs.Common.{sym, ap, ◌∙◌, Some}
use Rattle.std.proofs.lemmas.Result.{IfOk-weaker}
use Rattle.std.proofs.lemmas.Map.Steps.{set_value_same}
use Rattle.ic_behaviour.specs.State.{at}
use Rattle.ic_state.specs.declared.canister.Canister.{Canister}
use Rattle.ic_state.proofs.InPlace.{state_same, keeps_same}
use Rattle.ic_asking.specs.Beside.{with_messages}
use Rattle.ic_asking.proofs.InPlace.{asked_keeps, accepts-none, accepts-some}
use Rattle.ic_asking.proofs.asking.accepts_beside.Goals as goal

pub accepts-requires : goal.accepts-requires
accepts-requires c =
    let p = with_messages c.args.parts.now c.requires.keeps.0 in
    asked_keeps c.args.charge.limit c.args.charge.price p c.requires.keeps.1 c.args.ask.now c.in-Some.place.now (sym c.in-Some.ensures.value)

pub returns-in-Some-clause-accepted : goal.returns-in-Some-clause-accepted
returns-in-Some-clause-accepted c =
    IfOk-weaker c.accepts.result _ _ (λ b is messages keeps. is ∙ accepts-some c.args.charge.limit c.args.charge.price (with_messages c.args.parts.now messages) keeps c.args.ask.now
    c.in-Some.place.now (sym c.in-Some.ensures.value)) c.accepts.ensures.accepted

pub returns-in-Some-clause-same : goal.returns-in-Some-clause-same
returns-in-Some-clause-same c messages =
    let m = c.args.parts.now.canisters in
    let w = c.accepts.new.place in
    let found = sym c.in-Some.ensures.value ∙ ap (λ (d : Canister). Some d) (sym c.accepts.ensures.same) in
    state_same (with_messages c.args.parts.now messages) (c.get_mut.follows.lender w) ((c.get_mut.follows.holds w).0 ∙ set_value_same (at c.args.ask.now.callee) m.entries w found)

pub returns-in-Some-clause-keeps : goal.returns-in-Some-clause-keeps
returns-in-Some-clause-keeps c messages =
    let m = c.args.parts.now.canisters in
    let w = c.accepts.new.place in
    let found = sym c.in-Some.ensures.value ∙ ap (λ (d : Canister). Some d) (sym c.accepts.ensures.same) in
    keeps_same (with_messages c.args.parts.now messages) (c.get_mut.follows.lender w) ((c.get_mut.follows.holds w).0 ∙ set_value_same (at c.args.ask.now.callee) m.entries w found)

pub returns-in-None-clause-accepted : goal.returns-in-None-clause-accepted
returns-in-None-clause-accepted c messages keeps =
    accepts-none c.args.charge.limit c.args.charge.price (with_messages c.args.parts.now messages) keeps c.args.ask.now (sym c.in-None.ensures.value)
