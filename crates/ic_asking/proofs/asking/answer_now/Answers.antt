use Rattle.std.proofs.Common.{◌≡◌, List, sym, subst}
use Rattle.std.proofs.lemmas.Result.{IfOk-weaker}
use Rattle.ic_behaviour.specs.declared.call.Message.{Message}
use Rattle.ic_state.specs.IsWorld.{IsWorld}
use Rattle.ic_state.specs.Seen.{state_of}
use Rattle.ic_asking.specs.Beside.{with_messages}
use Rattle.ic_asking.proofs.asking.answer_now.Goals as goal

pub answer_beside-requires : goal.answer_beside-requires
answer_beside-requires c = record { keeps = (c.args.parts.now.messages, c.requires.keeps) }

pub returns-clause-response : goal.returns-clause-response
returns-clause-response c = IfOk-weaker c.answer_beside.result _ _ (λ r is. is c.args.parts.now.messages c.requires.keeps) c.answer_beside.ensures.response

pub returns-clause-same : goal.returns-clause-same
returns-clause-same c =
    let p = c.answer_beside.new.parts in
    subst (λ (messages : List Message). state_of (with_messages p messages) ≡ state_of c.args.parts.now) (sym c.answer_beside.ensures.messages)
    (c.answer_beside.ensures.same c.args.parts.now.messages)

pub returns-clause-keeps : goal.returns-clause-keeps
returns-clause-keeps c =
    let p = c.answer_beside.new.parts in
    subst (λ (messages : List Message). IsWorld (with_messages p messages)) (sym c.answer_beside.ensures.messages)
    (c.answer_beside.ensures.keeps c.args.parts.now.messages c.requires.keeps)
