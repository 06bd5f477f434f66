use Rattle.std.proofs.Common.{◌≡◌, Some, ap, ◌∙◌}
use Rattle.std.specs.Option.{option_map}
use Rattle.ic_behaviour.specs.declared.call.IncomingCall.{IncomingCall}
use Rattle.ic_behaviour.specs.Entry.{enters_by}
use Rattle.ic_behaviour.specs.Local.{admitted, admit, context_of, begin_call, local_call}
use Rattle.ic_state.specs.declared.canister.Canister.{Canister}
use Rattle.ic_state.specs.Seen.{seen, code_of}
use Rattle.ic_api.specs.System.{system_api}
use Rattle.ic_exec.proofs.Handles.{admitted_is, taken_call, done_with}
use Rattle.ic_exec.proofs.executing.execute_call.Goals as goal

pub returns-else-canister-env-clause-done : goal.returns-else-canister-env-clause-done
returns-else-canister-env-clause-done c =
    let a : Canister = c.args.canister.now in
    let k = c.args.call in
    let is = admitted_is (seen a) k.method c.in-Ok.entry (c.in-Ok.ensures.admitted ∙ ap (admit (seen a)) (c.as_str.ensures.value ∙ ap (λ (t : IncomingCall). t.method) c.call.view_is)) in
    done_with c.begin_call.result c.begin_call.new.canister (λ code. option_map code_of a.code ≡ Some code)
    (λ code. begin_call (enters_by system_api) c.args.env (seen a) (context_of k.origin k.sender k.cycles) k.method k.arg (code, c.in-Ok.entry))
    (local_call (enters_by system_api) c.args.env (seen a) k.origin k.sender k.method k.arg k.cycles (admitted (seen a) k.method)) is.0 is.1 c.begin_call.ensures.done
    (taken_call (enters_by system_api) c.args.env (seen a) k.origin k.sender k.method k.arg k.cycles c.in-Ok.entry is.0 c.if-canister-env.false is.2)
