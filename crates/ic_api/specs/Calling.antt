-- Calls of other canisters (IC Interface Specification, "System API", "Inter-canister method calls").
use Rattle.std.specs.Prelude.{ℕ, ◌+◌, ◌-◌, ◌^◌, Bool, List, [], ◌∷◌, ◌++◌, length, Option, Some, None, is_some, ◌&&◌, ◌||◌, ◌==◌, nat_le, if◌then◌else◌}
use Rattle.std.specs.Str.{is_utf8}
use Rattle.wm_store.specs.Lists.{part}
use Rattle.ic_behaviour.specs.declared.call.Callback.{Callback}
use Rattle.ic_behaviour.specs.declared.execution.OutCall.{OutCall}
use Rattle.ic_api.specs.declared.execution.Execution.{Execution}
use Rattle.ic_api.specs.Steps.{Step, done, tells, fails}
use Rattle.ic_api.specs.Memory.{with_bytes}
use Rattle.ic_api.specs.Answering.{most_bytes}

abbrev pub begun_cycles : Option OutCall → ℕ
begun_cycles None = 0
begun_cycles (Some call) = call.cycles

-- a call that is begun is dropped, and its cycles return
abbrev pub abandoned : Execution → Execution
abandoned es = record es {
  view = record es.view { balance = es.view.balance + begun_cycles es.begun };
  begun = None;
}

abbrev pub begun_to : List ℕ → List ℕ → Callback → Execution → Execution
begun_to callee method callback es = record (abandoned es) {
  begun = Some (record { callee = callee; method = method; arg = []; cycles = 0; callback = callback });
}

abbrev pub new_call : List ℕ → List ℕ → Callback → Execution → Step Execution
new_call callee method callback es =
    if nat_le (length callee) 29 && (nat_le (length method) 20000 && is_utf8 method)
    then done (begun_to callee method callback es)
    else fails es

abbrev pub call_new : ℕ → ℕ → ℕ → ℕ → Callback → List ℕ → Execution → Step Execution
call_new callee_src callee_size name_src name_size callback memory es =
    with_bytes (part callee_src callee_size memory) es (λ callee.
    with_bytes (part name_src name_size memory) es (λ method.
    new_call callee method callback es))

-- ---- the call that is begun

abbrev pub with_call : Option OutCall → Execution → (OutCall → Step Execution) → Step Execution
with_call None es go_on = fails es
with_call (Some call) es go_on = go_on call

abbrev pub cleans_up : ℕ → ℕ → OutCall → OutCall
cleans_up fun env call = record call { callback = record call.callback { cleanup = Some (fun, env) } }

abbrev pub call_on_cleanup : ℕ → ℕ → Execution → Step Execution
call_on_cleanup fun env es = with_call es.begun es (λ call.
    if is_some call.callback.cleanup then fails es
    else done (record es { begun = Some (cleans_up fun env call) }))

abbrev pub grows_arg : List ℕ → OutCall → Execution → Step Execution
grows_arg bytes call es =
    if nat_le (length call.arg + length bytes) most_bytes
    then done (record es { begun = Some (record call { arg = call.arg ++ bytes }) })
    else fails es

abbrev pub call_data_append : ℕ → ℕ → List ℕ → Execution → Step Execution
call_data_append src size memory es = with_call es.begun es (λ call.
    with_bytes (part src size memory) es (λ bytes. grows_arg bytes call es))

abbrev pub adds : ℕ → OutCall → Execution → Execution
adds n call es = record es {
  view = record es.view { balance = es.view.balance - n };
  begun = Some (record call { cycles = call.cycles + n });
}

abbrev pub call_cycles_add : ℕ → Execution → Step Execution
call_cycles_add n es = with_call es.begun es (λ call.
    if nat_le n es.view.balance then done (adds n call es) else fails es)

-- no further call can be performed
abbrev pub is_full : Execution → Bool
is_full es =
    (es.view.outstanding + length es.performed == 500)
    || (es.view.next_call + length es.performed == 2 ^ 64 - 1)

abbrev pub performs : OutCall → Execution → Execution
performs call es = record es { begun = None; performed = es.performed ++ call ∷ [] }

abbrev pub call_perform : Execution → Step Execution
call_perform es = with_call es.begun es (λ call.
    if is_full es then tells 2 (abandoned es) else tells 0 (performs call es))
