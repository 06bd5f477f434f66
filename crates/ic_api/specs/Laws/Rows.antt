-- What each row of the table keeps, and that it answers by its signature.
use Rattle.std.specs.Prelude.{◌≡◌, ℕ, ◌<◌, ◌-◌, ◌^◌, Bool, true, false, List, [], ◌∷◌, Option, Some, None, nat_le, nat_lt, length, if◌then◌else◌, slice_index, bytes_eq, refl}
use Rattle.std.proofs.Common.{sym, subst, arith, ◌∙◌}
use Rattle.std.proofs.lemmas.Bool.{cond_both, ltb-true, true≢false}
use Rattle.std.proofs.Math.Nat.{min-le_left, min-le_right}
use Rattle.std.specs.List.{list_any}
use Rattle.wm_tree.specs.declared.types.ValType.TheVariants.{I32, I64}
use Rattle.wm_valid.specs.declared.system_api.SystemCall.{SystemCall}
use Rattle.wm_valid.specs.declared.system_api.SystemCall.TheVariants as call
use Rattle.wm_valid.specs.SystemApi.{row_of}
use Rattle.wm_store.specs.Values.{AreValues}
use Rattle.wm_store.specs.Lists.{Lists, part, written, pages_of}
use Rattle.wm_semantics.specs.declared.trap.Trap.TheVariants as trap
use Rattle.wm_semantics.specs.declared.host.HostAnswer.{HostAnswer}
use Rattle.wm_semantics.specs.declared.host.HostAnswer.TheVariants as answer
use Rattle.wm_semantics.specs.Hosts.{IsAnswer, HasPages}
use Rattle.ic_behaviour.specs.declared.execution.EntryKind.{EntryKind}
use Rattle.ic_behaviour.specs.declared.execution.EntryKind.TheVariants as kind
use Rattle.ic_api.specs.declared.execution.Execution.{Execution}
use Rattle.ic_api.specs.declared.kinds.Kinds.{Kinds}
use Rattle.ic_api.specs.declared.kinds.Kinds.TheVariants as kinds
use Rattle.ic_api.specs.Steps.{Step, Now, says, in_record, in_lists}
use Rattle.ic_api.specs.Kinds.{has, kinds_of, may_call}
use Rattle.ic_api.specs.Memory.{writes, source_copy, length_answer, amount_answer, sixteen}
use Rattle.ic_api.specs.Answering.{msg_reply_data_append, msg_reply, msg_reject}
use Rattle.ic_api.specs.Cycles.{whole, accepted, acceptable, accepts, msg_cycles_accept}
use Rattle.ic_api.specs.Calling.{call_new, call_on_cleanup, call_data_append, call_cycles_add, call_perform}
use Rattle.ic_api.specs.Stable.{stable_grow, stable_write}
use Rattle.ic_api.specs.Rest.{msg_reject_code, controls, answer_of, is_controller, accept_message, certified_data_set, trap_with}
use Rattle.ic_api.specs.Meaning.{meaning, copies, puts, callback_of}
use Rattle.ic_api.specs.IsRecord.{IsRecord}
use Rattle.ic_api.specs.Kept.{RecordKept, Quiet}
use Rattle.ic_api.specs.Laws.Records.{StepKept, same, as_it_is, accepted_kept, append_step, reply_step, reject_step, new_step, cleanup_step, data_step, add_step, perform_step, inspect_step, certify_step}
use Rattle.ic_api.specs.Laws.Lists.{ListsKept, ListStepKept, same_lists, IsLong, written_long, with_memory, write_step, copy_step, stable_write_step, grow_step}

-- ---- whole rows

-- the calls that may change cycles and calls
abbrev pub is_calling : Kinds → Bool
is_calling kinds.Calling = true
is_calling _ = false

pub is_calling_not : (kinds : Kinds) (k : EntryKind) → has kinds k ≡ true → may_call k ≡ false → is_calling kinds ≡ false
is_calling_not kinds.WithArgument k may quiet = refl
is_calling_not kinds.AllButStart k may quiet = refl
is_calling_not kinds.Callbacks k may quiet = refl
is_calling_not kinds.Rejected k may quiet = refl
is_calling_not kinds.Answering k may quiet = refl
is_calling_not kinds.Calling k may quiet = absurd (true≢false (sym may ∙ quiet))
is_calling_not kinds.Inspecting k may quiet = refl
is_calling_not kinds.Certifying k may quiet = refl
is_calling_not kinds.All k may quiet = refl

pub record RowKept (c : SystemCall) (args : List ℕ) (now : Now) (step : Step Now) : Type 0 where
  pub kept : RecordKept now.es step.after.es
  pub quiet : is_calling (kinds_of c) ≡ false → Quiet now.es step.after.es
  pub lists : ListsKept now.lists step.after.lists
  pub is_answer : IsRecord now.es → HasPages 256 now.lists.stable → AreValues (row_of c).params args → IsAnswer (row_of c).result step.answer

-- a row that changes nothing
tells_row : (c : SystemCall) (args : List ℕ) (now : Now) (a : HostAnswer)
    → (IsRecord now.es → HasPages 256 now.lists.stable → IsAnswer (row_of c).result a) → RowKept c args now (says a now)
tells_row c args now a is_answer = record {
  kept = same now.es;
  quiet = λ e. as_it_is now.es;
  lists = same_lists now.lists;
  is_answer = λ facts pages values. is_answer facts pages;
}

record_row : (c : SystemCall) (args : List ℕ) (now : Now) (step : Step Execution)
    → StepKept (row_of c).result (is_calling (kinds_of c)) now.es step → RowKept c args now (in_record step now.lists)
record_row c args now step kept = record {
  kept = kept.kept;
  quiet = kept.quiet;
  lists = same_lists now.lists;
  is_answer = λ facts pages values. kept.is_answer;
}

lists_row : (c : SystemCall) (args : List ℕ) (now : Now) (step : Step Lists) → ListStepKept (row_of c).result now.lists step → RowKept c args now (in_lists now.es step)
lists_row c args now step kept = record {
  kept = same now.es;
  quiet = λ e. as_it_is now.es;
  lists = kept.kept;
  is_answer = λ facts pages values. kept.is_answer pages;
}

copies_row : (c : SystemCall) (args : List ℕ) (now : Now) (source : List ℕ) → (row_of c).result ≡ None → RowKept c args now (copies source args now)
copies_row c args now source is =
    let step : Step Lists = source_copy source (slice_index args 0) (slice_index args 1) (slice_index args 2) now.lists in
    lists_row c args now step (subst (λ result. ListStepKept result now.lists step) (sym is) (copy_step source (slice_index args 0) (slice_index args 1) (slice_index args 2) now.lists))

puts_row : (c : SystemCall) (args : List ℕ) (now : Now) (n : ℕ) → (row_of c).result ≡ None → RowKept c args now (puts n args now)
puts_row c args now n is =
    let step : Step Lists = writes (slice_index args 0) (sixteen n) now.lists in
    lists_row c args now step (subst (λ result. ListStepKept result now.lists step) (sym is) (write_step (slice_index args 0) (sixteen n) now.lists))

-- ---- numbers

length_for : (bytes : List ℕ) → IsAnswer (Some I32) (length_answer bytes)
length_for bytes = cond_both (nat_lt (length bytes) (2 ^ 32)) (answer.Number (length bytes)) (answer.Trap trap.Api) (IsAnswer (Some I32)) (λ e. ltb-true (length bytes) (2 ^ 32) e) (λ e. tt)

amount_for : (n : ℕ) → IsAnswer (Some I64) (amount_answer n)
amount_for n = cond_both (nat_lt n (2 ^ 64)) (answer.Number n) (answer.Trap trap.Api) (IsAnswer (Some I64)) (λ e. ltb-true n (2 ^ 64) e) (λ e. tt)

length_row : (c : SystemCall) (args : List ℕ) (now : Now) (bytes : List ℕ) → (row_of c).result ≡ Some I32 → RowKept c args now (says (length_answer bytes) now)
length_row c args now bytes is = tells_row c args now (length_answer bytes) (λ facts pages. subst (λ result. IsAnswer result (length_answer bytes)) (sym is) (length_for bytes))

amount_row : (c : SystemCall) (args : List ℕ) (now : Now) (n : ℕ) → (row_of c).result ≡ Some I64 → RowKept c args now (says (amount_answer n) now)
amount_row c args now n is = tells_row c args now (amount_answer n) (λ facts pages. subst (λ result. IsAnswer result (amount_answer n)) (sym is) (amount_for n))

code_for : (k : EntryKind) (es : Execution) → es.view.reject_code < 2 ^ 32 → msg_reject_code k es < 2 ^ 32
code_for kind.Reply es h = omega arith
code_for kind.Init es h = h
code_for kind.PreUpgrade es h = h
code_for kind.Update es h = h
code_for kind.Query es h = h
code_for kind.Reject es h = h
code_for kind.Cleanup es h = h
code_for kind.Start es h = h
code_for kind.Inspect es h = h

truth : (b : Bool) → (if b then 1 else 0) < 2 ^ 32
truth true = omega arith
truth false = omega arith

controller_for : (o : Option (List ℕ)) (controllers : List (List ℕ)) → IsAnswer (Some I32) (answer_of o (controls controllers))
controller_for None controllers = tt
controller_for (Some id) controllers =
    let b = list_any (λ c. bytes_eq c id) controllers in
    cond_both (nat_le (length id) 29) (answer.Number (if b then 1 else 0)) (answer.Trap trap.Api) (IsAnswer (Some I32)) (λ e. truth b) (λ e. tt)

-- ---- cycles that are accepted

within_for : (args : List ℕ) (es : Execution) → AreValues (row_of call.MsgCyclesAccept).params args → acceptable (slice_index args 0) es < 2 ^ 64
within_for [] es values = absurd values
within_for (most ∷ rest) es values = omega (arith, values.0, min-le_left most es.view.available)

accept_row : (args : List ℕ) (now : Now) → RowKept call.MsgCyclesAccept args now (in_record (msg_cycles_accept (slice_index args 0) now.es) now.lists)
accept_row args now =
    let n = acceptable (slice_index args 0) now.es in
    record {
      kept = accepted_kept n now.es (min-le_right (slice_index args 0) now.es.view.available);
      quiet = λ e. absurd (true≢false e);
      lists = same_lists now.lists;
      is_answer = λ facts pages values. within_for args now.es values;
    }

accepts_row : (args : List ℕ) (n : ℕ) (o : Option (List ℕ)) (now : Now) → RecordKept now.es (accepted n now.es) → IsLong (length now.lists.memory) o
    → RowKept call.MsgCyclesAccept128 args now (accepts n o now)
accepts_row args n None now kept long = tells_row call.MsgCyclesAccept128 args now (answer.Trap trap.Api) (λ facts pages. tt)
accepts_row args n (Some memory) now kept long = record {
  kept = kept;
  quiet = λ e. absurd (true≢false e);
  lists = with_memory now.lists memory long;
  is_answer = λ facts pages values. tt;
}

-- ---- each row

pub row_kept : (k : EntryKind) (c : SystemCall) (args : List ℕ) (now : Now) → RowKept c args now (meaning k c args now)
row_kept k call.MsgArgDataSize args now = length_row call.MsgArgDataSize args now now.es.view.arg refl
row_kept k call.MsgArgDataCopy args now = copies_row call.MsgArgDataCopy args now now.es.view.arg refl
row_kept k call.MsgCallerSize args now = length_row call.MsgCallerSize args now now.es.view.caller refl
row_kept k call.MsgCallerCopy args now = copies_row call.MsgCallerCopy args now now.es.view.caller refl
row_kept k call.MsgRejectCode args now = tells_row call.MsgRejectCode args now (answer.Number (msg_reject_code k now.es)) (λ facts pages. code_for k now.es facts.code)
row_kept k call.MsgRejectMsgSize args now = length_row call.MsgRejectMsgSize args now now.es.view.reject_message refl
row_kept k call.MsgRejectMsgCopy args now = copies_row call.MsgRejectMsgCopy args now now.es.view.reject_message refl
row_kept k call.MsgReplyDataAppend args now =
    record_row call.MsgReplyDataAppend args now (msg_reply_data_append (slice_index args 0) (slice_index args 1) now.lists.memory now.es) (append_step (slice_index args 0) (slice_index args 1) now.lists.memory now.es)
row_kept k call.MsgReply args now = record_row call.MsgReply args now (msg_reply now.es) (reply_step now.es)
row_kept k call.MsgReject args now =
    record_row call.MsgReject args now (msg_reject (slice_index args 0) (slice_index args 1) now.lists.memory now.es) (reject_step (slice_index args 0) (slice_index args 1) now.lists.memory now.es)
row_kept k call.MsgCyclesAvailable args now = amount_row call.MsgCyclesAvailable args now now.es.view.available refl
row_kept k call.MsgCyclesAvailable128 args now = puts_row call.MsgCyclesAvailable128 args now now.es.view.available refl
row_kept k call.MsgCyclesRefunded args now = amount_row call.MsgCyclesRefunded args now now.es.view.refund refl
row_kept k call.MsgCyclesRefunded128 args now = puts_row call.MsgCyclesRefunded128 args now now.es.view.refund refl
row_kept k call.MsgCyclesAccept args now = accept_row args now
row_kept k call.MsgCyclesAccept128 args now =
    let most = whole (slice_index args 0) (slice_index args 1) in
    let n = acceptable most now.es in
    accepts_row args n (written (slice_index args 2) (sixteen n) now.lists.memory) now (accepted_kept n now.es (min-le_right most now.es.view.available)) (written_long (slice_index args 2) (sixteen n) now.lists.memory)
row_kept k call.CanisterSelfSize args now = length_row call.CanisterSelfSize args now now.es.view.id refl
row_kept k call.CanisterSelfCopy args now = copies_row call.CanisterSelfCopy args now now.es.view.id refl
row_kept k call.CanisterCycleBalance args now = amount_row call.CanisterCycleBalance args now now.es.view.balance refl
row_kept k call.CanisterCycleBalance128 args now = puts_row call.CanisterCycleBalance128 args now now.es.view.balance refl
row_kept k call.CanisterStatus args now = tells_row call.CanisterStatus args now (answer.Number now.es.view.phase_number) (λ facts pages. facts.phase)
row_kept k call.IsController args now =
    tells_row call.IsController args now (is_controller (slice_index args 0) (slice_index args 1) now.lists.memory now.es) (λ facts pages. controller_for (part (slice_index args 0) (slice_index args 1) now.lists.memory) now.es.view.controllers)
row_kept k call.MsgMethodNameSize args now = length_row call.MsgMethodNameSize args now now.es.view.method refl
row_kept k call.MsgMethodNameCopy args now = copies_row call.MsgMethodNameCopy args now now.es.view.method refl
row_kept k call.AcceptMessage args now = record_row call.AcceptMessage args now (accept_message now.es) (inspect_step now.es)
row_kept k call.CallNew args now =
    record_row call.CallNew args now (call_new (slice_index args 0) (slice_index args 1) (slice_index args 2) (slice_index args 3) (callback_of args) now.lists.memory now.es)
    (new_step (slice_index args 0) (slice_index args 1) (slice_index args 2) (slice_index args 3) (callback_of args) now.lists.memory now.es)
row_kept k call.CallOnCleanup args now = record_row call.CallOnCleanup args now (call_on_cleanup (slice_index args 0) (slice_index args 1) now.es) (cleanup_step (slice_index args 0) (slice_index args 1) now.es)
row_kept k call.CallDataAppend args now =
    record_row call.CallDataAppend args now (call_data_append (slice_index args 0) (slice_index args 1) now.lists.memory now.es) (data_step (slice_index args 0) (slice_index args 1) now.lists.memory now.es)
row_kept k call.CallCyclesAdd args now = record_row call.CallCyclesAdd args now (call_cycles_add (slice_index args 0) now.es) (add_step (slice_index args 0) now.es)
row_kept k call.CallCyclesAdd128 args now =
    let n = whole (slice_index args 0) (slice_index args 1) in record_row call.CallCyclesAdd128 args now (call_cycles_add n now.es) (add_step n now.es)
row_kept k call.CallPerform args now = record_row call.CallPerform args now (call_perform now.es) (perform_step now.es)
row_kept k call.StableSize args now = tells_row call.StableSize args now (answer.Number (pages_of now.lists.stable)) (λ facts pages. omega (arith, pages.within))
row_kept k call.StableGrow args now = lists_row call.StableGrow args now (stable_grow (2 ^ 32 - 1) (slice_index args 0) now.lists) (grow_step I32 (2 ^ 32 - 1) (slice_index args 0) now.lists (omega arith) (omega arith))
row_kept k call.StableWrite args now =
    lists_row call.StableWrite args now (stable_write (slice_index args 0) (slice_index args 1) (slice_index args 2) now.lists) (stable_write_step (slice_index args 0) (slice_index args 1) (slice_index args 2) now.lists)
row_kept k call.StableRead args now = copies_row call.StableRead args now now.lists.stable refl
row_kept k call.Stable64Size args now = tells_row call.Stable64Size args now (answer.Number (pages_of now.lists.stable)) (λ facts pages. omega (arith, pages.within))
row_kept k call.Stable64Grow args now = lists_row call.Stable64Grow args now (stable_grow (2 ^ 64 - 1) (slice_index args 0) now.lists) (grow_step I64 (2 ^ 64 - 1) (slice_index args 0) now.lists (omega arith) (omega arith))
row_kept k call.Stable64Write args now =
    lists_row call.Stable64Write args now (stable_write (slice_index args 0) (slice_index args 1) (slice_index args 2) now.lists) (stable_write_step (slice_index args 0) (slice_index args 1) (slice_index args 2) now.lists)
row_kept k call.Stable64Read args now = copies_row call.Stable64Read args now now.lists.stable refl
row_kept k call.CertifiedDataSet args now =
    record_row call.CertifiedDataSet args now (certified_data_set (slice_index args 0) (slice_index args 1) now.lists.memory now.es) (certify_step (slice_index args 0) (slice_index args 1) now.lists.memory now.es)
row_kept k call.DataCertificatePresent args now = tells_row call.DataCertificatePresent args now (answer.Number 0) (λ facts pages. omega arith)
row_kept k call.Time args now = tells_row call.Time args now (answer.Number now.es.view.time) (λ facts pages. facts.time)
row_kept k call.DebugPrint args now = tells_row call.DebugPrint args now answer.Nothing (λ facts pages. tt)
row_kept k call.Trap args now = tells_row call.Trap args now (answer.Trap (trap_with (slice_index args 0) (slice_index args 1) now.lists.memory)) (λ facts pages. tt)
