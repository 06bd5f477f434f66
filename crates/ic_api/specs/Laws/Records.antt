-- What the steps of the table keep of the record, and that they answer by their signatures.
use Rattle.std.specs.Prelude.{◌≡◌, ℕ, ◌+◌, ◌-◌, ◌≤◌, ◌^◌, Bool, true, false, List, ◌++◌, ◌∷◌, [], length, Option, Some, None, ◌&&◌, ◌==◌, nat_le, is_some, if◌then◌else◌, refl}
use Rattle.std.proofs.Common.{sym, ap, arith, ◌∙◌}
use Rattle.std.proofs.lemmas.Bool.{cond_both, or_parts, eqb-false, leb-true, true≢false, false≢true}
use Rattle.std.proofs.lemmas.List.{length_push}
use Rattle.std.specs.Str.{is_utf8}
use Rattle.wm_tree.specs.declared.types.ValType.{ValType}
use Rattle.wm_tree.specs.declared.types.ValType.TheVariants.{I32}
use Rattle.wm_store.specs.Lists.{part}
use Rattle.wm_semantics.specs.declared.trap.Trap.{Trap}
use Rattle.wm_semantics.specs.declared.trap.Trap.TheVariants as trap
use Rattle.wm_semantics.specs.declared.host.HostAnswer.{HostAnswer}
use Rattle.wm_semantics.specs.declared.host.HostAnswer.TheVariants as answer
use Rattle.wm_semantics.specs.Hosts.{IsAnswer}
use Rattle.ic_behaviour.specs.declared.call.Callback.{Callback}
use Rattle.ic_behaviour.specs.declared.call.Response.{Response}
use Rattle.ic_behaviour.specs.declared.call.Response.TheVariants as response
use Rattle.ic_behaviour.specs.declared.execution.OutCall.{OutCall}
use Rattle.ic_api.specs.declared.execution.Execution.{Execution}
use Rattle.ic_api.specs.Steps.{Step, says, done, fails}
use Rattle.ic_api.specs.Memory.{with_bytes}
use Rattle.ic_api.specs.Answering.{most_bytes, appends, responded, rejects, msg_reply_data_append, msg_reply, msg_reject}
use Rattle.ic_api.specs.Cycles.{accepted}
use Rattle.ic_api.specs.Calling.{begun_cycles, abandoned, begun_to, new_call, call_new, with_call, cleans_up, call_on_cleanup, grows_arg, call_data_append, adds, call_cycles_add, is_full, performs, call_perform}
use Rattle.ic_api.specs.Rest.{accept_message, certifies, certified_data_set}
use Rattle.ic_api.specs.IsRecord.{execution_cycles, calls_cycles, refund_of}
use Rattle.ic_api.specs.Kept.{unchanging, RecordKept, Quiet}

-- ---- changes of the record

-- nobody answers, and no call goes out
changed : (old new : Execution) → unchanging new.view ≡ unchanging old.view → new.view.responded ≡ old.view.responded → new.answer ≡ old.answer → new.performed ≡ old.performed
    → execution_cycles new ≡ execution_cycles old → new.view.available ≤ old.view.available → RecordKept old new
changed old new view responded answer performed cycles falls = record {
  cycles = λ once. cycles;
  once = λ once e. answer ∙ once (sym responded ∙ e);
  gift = omega (arith, falls, ap refund_of answer);
  late = λ e. (responded ∙ e, answer);
  spent = λ spent a e. omega (arith, falls, spent a (sym answer ∙ e));
  few = λ h. omega (arith, h, ap (λ v. v.outstanding) view, ap length performed);
  numbers = λ h. omega (arith, h, ap (λ v. v.next_call) view, ap length performed);
  view = view;
}

pub same : (es : Execution) → RecordKept es es
same es = changed es es refl refl refl refl refl (omega arith)

responded_kept : (r : Response) (es : Execution) → es.view.responded ≡ false → RecordKept es (responded r es)
responded_kept r es fresh = record {
  cycles = λ once. omega (arith, ap refund_of (once fresh));
  once = λ once e. absurd (true≢false e);
  gift = omega arith;
  late = λ e. absurd (false≢true (sym fresh ∙ e));
  spent = λ spent a e. refl;
  few = λ h. h;
  numbers = λ h. h;
  view = refl;
}

pub accepted_kept : (n : ℕ) (es : Execution) → n ≤ es.view.available → RecordKept es (accepted n es)
accepted_kept n es within = changed es (accepted n es) refl refl refl refl (omega (arith, within)) (omega arith)

-- cycles between the balance and the call that is begun
begun_kept : (es : Execution) (balance : ℕ) (begun : Option OutCall) → balance + begun_cycles begun ≡ es.view.balance + begun_cycles es.begun
    → RecordKept es (record es { view = record es.view { balance = balance }; begun = begun })
begun_kept es balance begun moved =
    changed es (record es { view = record es.view { balance = balance }; begun = begun }) refl refl refl refl (omega (arith, moved)) (omega arith)

-- another call with as many cycles
call_changed : (es : Execution) (call call' : OutCall) → es.begun ≡ Some call → call'.cycles ≡ call.cycles → RecordKept es (record es { begun = Some call' })
call_changed es call call' is equal = begun_kept es es.view.balance (Some call') (omega (arith, ap begun_cycles is, equal))

total-push : (calls : List OutCall) (call : OutCall) → calls_cycles (calls ++ call ∷ []) ≡ calls_cycles calls + call.cycles
total-push [] call = omega arith
total-push (c ∷ calls) call = omega (arith, total-push calls call)

performs_kept : (call : OutCall) (es : Execution) → es.begun ≡ Some call → is_full es ≡ false → RecordKept es (performs call es)
performs_kept call es is fresh =
    let parts = or_parts (es.view.outstanding + length es.performed == 500) (es.view.next_call + length es.performed == 2 ^ 64 - 1) fresh in
    record {
      cycles = λ once. omega (arith, ap begun_cycles is, total-push es.performed call);
      once = λ once. once;
      gift = omega arith;
      late = λ e. (e, refl);
      spent = λ spent. spent;
      few = λ h. omega (arith, h, eqb-false (es.view.outstanding + length es.performed) 500 parts.0, length_push es.performed call);
      numbers = λ h. omega (arith, h, eqb-false (es.view.next_call + length es.performed) (2 ^ 64 - 1) parts.1, length_push es.performed call);
      view = refl;
    }

-- ---- steps

-- what a step on the record keeps, by the result that its call has, and by whether it may change cycles and calls
pub record StepKept (result : Option ValType) (calling : Bool) (es : Execution) (step : Step Execution) : Type 0 where
  pub kept : RecordKept es step.after
  pub quiet : calling ≡ false → Quiet es step.after
  pub is_answer : IsAnswer result step.answer

pub as_it_is : (es : Execution) → Quiet es es
as_it_is es = record { balance = refl; begun = refl; performed = refl }

pub trap_for : (result : Option ValType) (t : Trap) → IsAnswer result (answer.Trap t)
trap_for None t = tt
trap_for (Some r) t = tt

module _ (result : Option ValType) (calling : Bool) (es : Execution) where
  failed : StepKept result calling es (fails es)
  failed = record { kept = same es; quiet = λ e. as_it_is es; is_answer = trap_for result trap.Api }

  when_bytes : (o : Option (List ℕ)) (f : List ℕ → Step Execution) → ((bytes : List ℕ) → StepKept result calling es (f bytes)) → StepKept result calling es (with_bytes o es f)
  when_bytes None f kept = failed
  when_bytes (Some bytes) f kept = kept bytes

  when_begun : (o : Option OutCall) (f : OutCall → Step Execution) → ((call : OutCall) → o ≡ Some call → StepKept result calling es (f call)) → StepKept result calling es (with_call o es f)
  when_begun None f kept = failed
  when_begun (Some call) f kept = kept call refl

  when_so : (b : Bool) (x y : Step Execution) → (b ≡ true → StepKept result calling es x) → (b ≡ false → StepKept result calling es y) → StepKept result calling es (if b then x else y)
  when_so b x y p q = cond_both b x y (StepKept result calling es) p q

-- a step that changes neither cycles nor calls
did : (calling : Bool) (es after : Execution) → RecordKept es after → Quiet es after → StepKept None calling es (done after)
did calling es after kept quiet = record { kept = kept; quiet = λ e. quiet; is_answer = tt }

-- a step of the calls that may
did_call : (result : Option ValType) (a : HostAnswer) (es after : Execution) → RecordKept es after → IsAnswer result a → StepKept result true es (says a after)
did_call result a es after kept is_answer = record { kept = kept; quiet = λ e. absurd (true≢false e); is_answer = is_answer }

-- ---- answering

pub append_step : (src size : ℕ) (memory : List ℕ) (es : Execution) → StepKept None false es (msg_reply_data_append src size memory es)
append_step src size memory es =
    let next : List ℕ → Step Execution = λ bytes. appends bytes es in
    when_so None false es es.view.responded (fails es) (with_bytes (part src size memory) es next) (λ e. failed None false es) (λ e.
    when_bytes None false es (part src size memory) next (λ bytes.
    let after = record es { appended = es.appended ++ bytes } in
    when_so None false es (nat_le (length es.appended + length bytes) most_bytes) (done after) (fails es)
    (λ e. did false es after (changed es after refl refl refl refl refl (omega arith)) (record { balance = refl; begun = refl; performed = refl })) (λ e. failed None false es)))

responded_step : (r : Response) (es : Execution) → es.view.responded ≡ false → StepKept None false es (done (responded r es))
responded_step r es fresh = did false es (responded r es) (responded_kept r es fresh) (record { balance = refl; begun = refl; performed = refl })

pub reply_step : (es : Execution) → StepKept None false es (msg_reply es)
reply_step es =
    when_so None false es es.view.responded (fails es) (done (responded (response.Reply es.appended) es)) (λ e. failed None false es) (responded_step (response.Reply es.appended) es)

pub reject_step : (src size : ℕ) (memory : List ℕ) (es : Execution) → StepKept None false es (msg_reject src size memory es)
reject_step src size memory es =
    let next : List ℕ → Step Execution = λ message. rejects message es in
    when_so None false es es.view.responded (fails es) (with_bytes (part src size memory) es next) (λ e. failed None false es) (λ fresh.
    when_bytes None false es (part src size memory) next (λ message.
    when_so None false es (nat_le (length message) most_bytes && is_utf8 message) (done (responded (response.Reject 4 message) es)) (fails es)
    (λ e. responded_step (response.Reject 4 message) es fresh) (λ e. failed None false es)))

-- ---- calls

pub new_step : (callee_src callee_size name_src name_size : ℕ) (callback : Callback) (memory : List ℕ) (es : Execution)
    → StepKept None true es (call_new callee_src callee_size name_src name_size callback memory es)
new_step callee_src callee_size name_src name_size callback memory es =
    let named : List ℕ → List ℕ → Step Execution = λ callee method. new_call callee method callback es in
    when_bytes None true es (part callee_src callee_size memory) (λ callee. with_bytes (part name_src name_size memory) es (named callee)) (λ callee.
    when_bytes None true es (part name_src name_size memory) (named callee) (λ method.
    let after = begun_to callee method callback es in
    when_so None true es (nat_le (length callee) 29 && (nat_le (length method) 20000 && is_utf8 method)) (done after) (fails es)
    (λ e. did_call None answer.Nothing es after (begun_kept es (es.view.balance + begun_cycles es.begun) after.begun (omega arith)) tt) (λ e. failed None true es)))

pub cleanup_step : (fun env : ℕ) (es : Execution) → StepKept None true es (call_on_cleanup fun env es)
cleanup_step fun env es =
    let after : OutCall → Execution = λ call. record es { begun = Some (cleans_up fun env call) } in
    when_begun None true es es.begun (λ call. if is_some call.callback.cleanup then fails es else done (after call)) (λ call is.
    when_so None true es (is_some call.callback.cleanup) (fails es) (done (after call)) (λ e. failed None true es)
    (λ e. did_call None answer.Nothing es (after call) (call_changed es call (cleans_up fun env call) is refl) tt))

pub data_step : (src size : ℕ) (memory : List ℕ) (es : Execution) → StepKept None true es (call_data_append src size memory es)
data_step src size memory es =
    let next : OutCall → List ℕ → Step Execution = λ call bytes. grows_arg bytes call es in
    when_begun None true es es.begun (λ call. with_bytes (part src size memory) es (next call)) (λ call is.
    when_bytes None true es (part src size memory) (next call) (λ bytes.
    let grown = record call { arg = call.arg ++ bytes } in
    when_so None true es (nat_le (length call.arg + length bytes) most_bytes) (done (record es { begun = Some grown })) (fails es)
    (λ e. did_call None answer.Nothing es (record es { begun = Some grown }) (call_changed es call grown is refl) tt) (λ e. failed None true es)))

adds_kept : (n : ℕ) (call : OutCall) (es : Execution) → es.begun ≡ Some call → n ≤ es.view.balance → RecordKept es (adds n call es)
adds_kept n call es is within =
    begun_kept es (es.view.balance - n) (Some (record call { cycles = call.cycles + n })) (omega (arith, within, ap begun_cycles is))

pub add_step : (n : ℕ) (es : Execution) → StepKept None true es (call_cycles_add n es)
add_step n es =
    when_begun None true es es.begun (λ call. if nat_le n es.view.balance then done (adds n call es) else fails es) (λ call is.
    when_so None true es (nat_le n es.view.balance) (done (adds n call es)) (fails es)
    (λ e. did_call None answer.Nothing es (adds n call es) (adds_kept n call es is (leb-true n es.view.balance e)) tt) (λ e. failed None true es))

pub perform_step : (es : Execution) → StepKept (Some I32) true es (call_perform es)
perform_step es =
    when_begun (Some I32) true es es.begun (λ call. if is_full es then says (answer.Number 2) (abandoned es) else says (answer.Number 0) (performs call es)) (λ call is.
    when_so (Some I32) true es (is_full es) (says (answer.Number 2) (abandoned es)) (says (answer.Number 0) (performs call es))
    (λ e. did_call (Some I32) (answer.Number 2) es (abandoned es) (begun_kept es (es.view.balance + begun_cycles es.begun) None (omega arith)) (omega arith))
    (λ e. did_call (Some I32) (answer.Number 0) es (performs call es) (performs_kept call es is e) (omega arith)))

-- ---- the rest

pub inspect_step : (es : Execution) → StepKept None false es (accept_message es)
inspect_step es =
    let after = record es { accepted_message = true } in
    when_so None false es es.accepted_message (fails es) (done after) (λ e. failed None false es)
    (λ e. did false es after (changed es after refl refl refl refl refl (omega arith)) (record { balance = refl; begun = refl; performed = refl }))

pub certify_step : (src size : ℕ) (memory : List ℕ) (es : Execution) → StepKept None false es (certified_data_set src size memory es)
certify_step src size memory es =
    let next : List ℕ → Step Execution = λ bytes. done (certifies bytes es) in
    when_so None false es (nat_le size 32) (with_bytes (part src size memory) es next) (fails es) (λ e.
    when_bytes None false es (part src size memory) next (λ bytes.
    did false es (certifies bytes es) (changed es (certifies bytes es) refl refl refl refl refl (omega arith)) (record { balance = refl; begun = refl; performed = refl }))) (λ e. failed None false es)
