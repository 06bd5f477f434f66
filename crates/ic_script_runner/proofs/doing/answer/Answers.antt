use Rattle.std.proofs.Common.{◌≡◌, ℕ, List, Ok, sym, ap, ap₂, ◌∙◌}
use Rattle.ic_behaviour.specs.State.{State}
use Rattle.ic_asking.specs.Asking as asking
use Rattle.ic_output.specs.Texts.{query_text}
use Rattle.ic_script_runner.proofs.Asked.{given_back}
use Rattle.ic_script_runner.proofs.doing.answer.Goals as goal

pub seal-world-requires : goal.seal-world-requires
seal-world-requires c =
    let q = c.open-rest.result.1 in
    let is = c.open-rest.ensures.keeps in
    let asked = c.answer_beside-answered.ensures in
    given_back c.open-rest.result.0 c.answer_beside-answered.new.parts q is (asked.same q.messages) (asked.keeps q.messages is.keeps) asked.messages

pub returns : goal.returns
returns c =
    let q = c.open-rest.result.1 in
    let options = c.args.options.now in
    let charge = c.charge.result in
    let world : c.seal-world.result ≡ c.args.world = c.seal-world.ensures ∙ c.answer_beside-answered.ensures.same q.messages ∙ c.open-rest.ensures.state in
    let response : c.in_ok-response.response ≡ asking.answer_now options.limit options.price c.args.world c.args.ask =
    c.in_ok-response.ensures.response q.messages c.open-rest.ensures.keeps.keeps
    ∙ ap (λ (s : State). asking.answer_now charge.limit charge.price s c.args.ask) c.open-rest.ensures.state
    ∙ ap₂ (λ (limit price : ℕ). asking.answer_now limit price c.args.world c.args.ask) c.charge.ensures.limit c.charge.ensures.price in
    sym (ap₂ (λ (s : State) (text : List ℕ). Ok (s, text)) world (c.in_ok-text.ensures ∙ ap query_text response))
