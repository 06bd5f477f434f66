use Rattle.std.proofs.Common.{ap, ◌∙◌, subst}
use Rattle.ic_behaviour.specs.declared.call.Message.TheVariants.{Answer}
use Rattle.ic_behaviour.specs.Entry.{enters_by}
use Rattle.ic_behaviour.specs.Local.{admitted, with_answer, local_call, begin_answer, local}
use Rattle.ic_state.specs.declared.canister.Canister.{Canister}
use Rattle.ic_state.specs.Seen.{seen}
use Rattle.ic_calls.specs.Received.{IsExpected}
use Rattle.ic_api.specs.System.{system_api}
use Rattle.ic_exec.proofs.Handles.{done_is, local_of_call, local_of_answer}
use Rattle.ic_exec.proofs.executing.execute_in.Goals as goal

pub returns-in-Call-clause-done : goal.returns-in-Call-clause-done
returns-in-Call-clause-done c =
    let a : Canister = c.args.canister.now in
    let k = c.in-Call in
    done_is c.execute_call.result c.execute_call.new.canister (local_call (enters_by system_api) c.args.env (seen a) k.origin k.sender k.method k.arg k.cycles (admitted (seen a) k.method))
    (local (enters_by system_api) c.args.env (seen a) c.args.message) (rw c.env.ensures.value at c.execute_call.ensures.done)
    (local_of_call (enters_by system_api) c.args.env (seen a) c.args.message k.origin k.sender k.callee k.method k.arg k.cycles k.is)

pub returns-in-Canister-clause-done : goal.returns-in-Canister-clause-done
returns-in-Canister-clause-done c =
    let a : Canister = c.args.canister.now in
    let k = c.in-Answer in
    let o = c.in-Canister in
    done_is c.execute_answer.result c.execute_answer.new.canister (begin_answer (enters_by system_api) c.args.env (with_answer o.context k.refund (seen a)) o.context o.callback k.response k.refund)
    (local (enters_by system_api) c.args.env (seen a) c.args.message) c.execute_answer.ensures.done
    (local_of_answer (enters_by system_api) c.args.env (seen a) c.args.message k.origin o.caller o.number o.context o.callback k.sender k.response k.refund k.is o.is)

pub unreachable-requires : goal.unreachable-requires
unreachable-requires c =
    subst (IsExpected (seen c.args.canister.now)) (c.in-Answer.is ∙ ap (λ f. Answer f c.in-Answer.sender c.in-Answer.response c.in-Answer.refund) c.in-Ingress.is) c.requires.expected
