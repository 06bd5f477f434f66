use Rattle.std.proofs.Common.{ap, sym, ◌∙◌}
use Rattle.ic_behaviour.specs.Entry.{enters_by}
use Rattle.ic_behaviour.specs.Closing.{finished}
use Rattle.ic_behaviour.specs.Local.{with_answer, begin_answer}
use Rattle.ic_state.specs.declared.canister.Canister.{Canister}
use Rattle.ic_state.specs.Seen.{seen}
use Rattle.ic_api.specs.System.{system_api}
use Rattle.ic_exec.specs.Executed.{work_of}
use Rattle.ic_exec.proofs.Handles.{own_place, done_is, nothing_runs, callback_runs}
use Rattle.ic_exec.proofs.executing.execute_answer.Goals as goal

pub run_callback-requires-clause-place : goal.run_callback-requires-clause-place
run_callback-requires-clause-place c =
    own_place c.args.own c.take_refund-place.new.canister.contexts c.take_refund-place.result c.context_at-context.result c.take_refund-place.ensures.place c.context_at-context.ensures

pub returns-in_ok-work-clause-done : goal.returns-in_ok-work-clause-done
returns-in_ok-work-clause-done c =
    let a : Canister = c.args.canister.now in
    let d : Canister = c.take_refund-place.new.canister in
    let w = work_of c.context_at-context.result.id c.run_callback.new.canister c.in_ok-work.work in
    done_is c.finish.result c.finish.new.canister (finished c.args.env.price w)
    (begin_answer (enters_by system_api) c.args.env (with_answer c.args.own c.args.answer.refund (seen a)) c.args.own c.args.answer.callback c.args.answer.response c.args.answer.refund) (rw c.env-price.ensures.value at c.finish.ensures.done)
    (callback_runs (enters_by system_api) c.args.env a d c.args.own c.args.answer.callback c.args.answer.response c.args.answer.refund c.take_refund-place.result c.context_at-context.result c.take_refund-place.ensures.taken c.take_refund-place.ensures.place
    c.context_at-context.ensures w (sym c.runs_callback.ensures ∙ c.if-runs_callback.true) c.in_ok-work.ensures.work)

pub returns-else-runs_callback-clause-done : goal.returns-else-runs_callback-clause-done
returns-else-runs_callback-clause-done c =
    let a : Canister = c.args.canister.now in
    let d : Canister = c.take_refund-place.new.canister in
    let w = work_of c.args.own d c.silent-work.result in
    done_is c.finish-else-runs_callback.result c.finish-else-runs_callback.new.canister (finished c.args.env.price w)
    (begin_answer (enters_by system_api) c.args.env (with_answer c.args.own c.args.answer.refund (seen a)) c.args.own c.args.answer.callback c.args.answer.response c.args.answer.refund) (rw c.env-price.ensures.value at c.finish-else-runs_callback.ensures.done)
    (nothing_runs (enters_by system_api) c.args.env a d c.args.own c.args.answer.callback c.args.answer.response c.args.answer.refund c.take_refund-place.result c.context_at-context.result c.take_refund-place.ensures.taken c.take_refund-place.ensures.place
    c.context_at-context.ensures w (sym c.runs_callback.ensures ∙ c.if-runs_callback.false) (ap (work_of c.args.own d) c.silent-work.ensures))
