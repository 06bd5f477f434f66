use Rattle.std.proofs.Common.{◌≡◌, ℕ, List, Some, IfOk, sym, ap, ◌∙◌, subst}
use Rattle.std.proofs.lemmas.Result.{IfOk-weaker}
use Rattle.std.proofs.lemmas.Map.Steps.{set_value_same}
use Rattle.ic_behaviour.specs.State.{at}
use Rattle.ic_behaviour.specs.declared.call.Response.{Response}
use Rattle.ic_behaviour.specs.Deliver.{env_at}
use Rattle.ic_behaviour.specs.Entry.{enters_by}
use Rattle.ic_api.specs.System.{system_api}
use Rattle.ic_entry.specs.Query.{query_response}
use Rattle.ic_state.specs.Seen.{seen}
use Rattle.ic_state.specs.declared.canister.Canister.{Canister}
use Rattle.ic_state.proofs.InPlace.{state_same, keeps_same}
use Rattle.ic_asking.specs.Beside.{with_messages}
use Rattle.ic_asking.proofs.InPlace.{asked_keeps, answer-none, answer-some}
use Rattle.ic_asking.proofs.asking.answer_beside.Goals as goal

pub ask_in_place-requires : goal.ask_in_place-requires
ask_in_place-requires c =
    let p = with_messages c.args.parts.now c.requires.keeps.0 in
    asked_keeps c.args.charge.limit c.args.charge.price p c.requires.keeps.1 c.args.ask c.in-Some.place.now (sym c.in-Some.ensures.value)

pub returns-in-Some-clause-response : goal.returns-in-Some-clause-response
returns-in-Some-clause-response c =
    let text = c.deref.ensures in
    let view = c.method.view_is in
    let is : c.args.ask.method ≡ c.deref.result.now = cc in
    let env = env_at c.args.parts.now.time c.args.charge.limit c.args.charge.price in
    let answers = λ (method : List ℕ) (r : Response). r ≡ query_response (enters_by system_api) env (seen c.in-Some.place.now) c.args.ask.sender method c.args.ask.arg in
    IfOk-weaker c.ask_in_place.result (answers c.args.ask.method) _
    (λ r is messages keeps. is ∙ answer-some c.args.charge.limit c.args.charge.price (with_messages c.args.parts.now messages) keeps c.args.ask c.in-Some.place.now (sym c.in-Some.ensures.value))
    (subst (λ (method : List ℕ). IfOk c.ask_in_place.result (answers method)) (sym is) c.ask_in_place.ensures.response)

pub returns-in-Some-clause-same : goal.returns-in-Some-clause-same
returns-in-Some-clause-same c messages =
    let m = c.args.parts.now.canisters in
    let w = c.ask_in_place.new.place in
    let found = sym c.in-Some.ensures.value ∙ ap (λ (d : Canister). Some d) (sym c.ask_in_place.ensures.same) in
    state_same (with_messages c.args.parts.now messages) (c.get_mut.follows.lender w) ((c.get_mut.follows.holds w).0 ∙ set_value_same (at c.args.ask.callee) m.entries w found)

pub returns-in-Some-clause-keeps : goal.returns-in-Some-clause-keeps
returns-in-Some-clause-keeps c messages =
    let m = c.args.parts.now.canisters in
    let w = c.ask_in_place.new.place in
    let found = sym c.in-Some.ensures.value ∙ ap (λ (d : Canister). Some d) (sym c.ask_in_place.ensures.same) in
    keeps_same (with_messages c.args.parts.now messages) (c.get_mut.follows.lender w) ((c.get_mut.follows.holds w).0 ∙ set_value_same (at c.args.ask.callee) m.entries w found)

pub returns-clause-response : goal.returns-clause-response
returns-clause-response c =
    IfOk-weaker c.no_canister.result _ _ (λ r is messages keeps. is ∙ answer-none c.args.charge.limit c.args.charge.price (with_messages c.args.parts.now messages) keeps c.args.ask
    (sym c.in-None.ensures.value)) c.no_canister.ensures
