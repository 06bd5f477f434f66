use Rattle.std.proofs.Common.{◌≡◌, Some, ap, ◌∙◌}
use Rattle.std.specs.Option.{option_map}
use Rattle.ic_behaviour.specs.Entry.{enters_by}
use Rattle.ic_behaviour.specs.Closing.{finished}
use Rattle.ic_behaviour.specs.Local.{context_of, begin_call}
use Rattle.ic_state.specs.declared.canister.Canister.{Canister}
use Rattle.ic_state.specs.Seen.{seen, code_of}
use Rattle.ic_api.specs.System.{system_api}
use Rattle.ic_exec.specs.Executed.{work_of}
use Rattle.ic_exec.proofs.Handles.{taken_place, taken_there, begun, done_for}
use Rattle.ic_exec.proofs.executing.begin_call.Goals as goal

pub run_call-requires-clause-place : goal.run_call-requires-clause-place
run_call-requires-clause-place c =
    let k = c.args.call in
    taken_place c.args.canister.now c.add_context.new.canister k.origin k.sender k.cycles c.in_ok-place.place c.requires.fresh c.in_ok-place.ensures.made c.in_ok-place.ensures.place c.context_of-context.result c.context_of-context.ensures

pub run_call-requires-clause-there : goal.run_call-requires-clause-there
run_call-requires-clause-there c =
    let k = c.args.call in
    taken_there c.args.canister.now c.add_context.new.canister k.origin k.sender k.cycles c.in_ok-place.place c.requires.fresh c.in_ok-place.ensures.made c.in_ok-place.ensures.place c.context_of-context.result c.context_of-context.ensures

pub returns-clause-done : goal.returns-clause-done
returns-clause-done c =
    let a : Canister = c.args.canister.now in
    let d : Canister = c.add_context.new.canister in
    let k = c.args.call in
    done_for c.finish.result c.finish.new.canister (finished c.args.env.price (work_of c.context_of-context.result.id c.run_call.new.canister c.in_ok-work.work)) (λ code. option_map code_of a.code ≡ Some code)
    (λ code. begin_call (enters_by system_api) c.args.env (seen a) (context_of k.origin k.sender k.cycles) k.method k.arg (code, c.args.entry)) c.finish.ensures.done
    (λ code has. begun a d k.origin k.sender k.cycles c.in_ok-place.place c.requires.fresh c.in_ok-place.ensures.made c.in_ok-place.ensures.place c.context_of-context.result c.context_of-context.ensures
    (enters_by system_api) c.args.env k.method k.arg c.args.entry (work_of c.context_of-context.result.id c.run_call.new.canister c.in_ok-work.work) code (c.in_ok-work.ensures.work code (ap (λ (b : Canister). option_map code_of b.code) c.in_ok-place.ensures.made ∙ has)))
