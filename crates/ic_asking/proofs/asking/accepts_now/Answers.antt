use Rattle.std.proofs.Common.{◌≡◌, List, sym, subst}
use Rattle.std.proofs.lemmas.Result.{IfOk-weaker}
use Rattle.ic_behaviour.specs.declared.call.Message.{Message}
use Rattle.ic_state.specs.IsWorld.{IsWorld}
use Rattle.ic_state.specs.Seen.{state_of}
use Rattle.ic_asking.specs.Beside.{with_messages}
use Rattle.ic_asking.proofs.asking.accepts_now.Goals as goal

pub accepts_beside-requires : goal.accepts_beside-requires
accepts_beside-requires c = record { keeps = (c.args.parts.now.messages, c.requires.keeps) }

pub returns-clause-accepted : goal.returns-clause-accepted
returns-clause-accepted c = IfOk-weaker c.accepts_beside.result _ _ (λ b is. is c.args.parts.now.messages c.requires.keeps) c.accepts_beside.ensures.accepted

pub returns-clause-same : goal.returns-clause-same
returns-clause-same c =
    let p = c.accepts_beside.new.parts in
    subst (λ (messages : List Message). state_of (with_messages p messages) ≡ state_of c.args.parts.now) (sym c.accepts_beside.ensures.messages)
    (c.accepts_beside.ensures.same c.args.parts.now.messages)

pub returns-clause-keeps : goal.returns-clause-keeps
returns-clause-keeps c =
    let p = c.accepts_beside.new.parts in
    subst (λ (messages : List Message). IsWorld (with_messages p messages)) (sym c.accepts_beside.ensures.messages)
    (c.accepts_beside.ensures.keeps c.args.parts.now.messages c.requires.keeps)
