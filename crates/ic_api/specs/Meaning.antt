-- The System API (IC Interface Specification, "System API"), row by row: what each call does, where
-- its kind may use it. The arguments are in the order of the table's signature.
use Rattle.std.specs.Prelude.{ℕ, ◌-◌, ◌^◌, List, None, slice_index}
use Rattle.wm_store.specs.Lists.{pages_of}
use Rattle.wm_valid.specs.declared.system_api.SystemCall.{SystemCall}
use Rattle.wm_valid.specs.declared.system_api.SystemCall.TheVariants as call
use Rattle.ic_behaviour.specs.declared.call.Callback.{Callback}
use Rattle.ic_behaviour.specs.declared.execution.EntryKind.{EntryKind}
use Rattle.ic_api.specs.Steps.{Step, Now, says, done, tells, traps, in_record, in_lists}
use Rattle.ic_api.specs.Memory.{source_copy, writes, length_answer, amount_answer, sixteen}
use Rattle.ic_api.specs.Answering.{msg_reply_data_append, msg_reply, msg_reject}
use Rattle.ic_api.specs.Cycles.{whole, msg_cycles_accept, msg_cycles_accept128}
use Rattle.ic_api.specs.Calling.{call_new, call_on_cleanup, call_data_append, call_cycles_add, call_perform}
use Rattle.ic_api.specs.Stable.{stable_grow, stable_write, stable_read}
use Rattle.ic_api.specs.Rest.{msg_reject_code, is_controller, accept_message, certified_data_set, trap_with}

-- a copy to memory: (dst, offset, size)
abbrev pub copies : List ℕ → List ℕ → Now → Step Now
copies source args now = in_lists now.es (source_copy source (slice_index args 0) (slice_index args 1) (slice_index args 2) now.lists)

-- sixteen bytes to memory: (dst)
abbrev pub puts : ℕ → List ℕ → Now → Step Now
puts n args now = in_lists now.es (writes (slice_index args 0) (sixteen n) now.lists)

abbrev pub callback_of : List ℕ → Callback
callback_of args = record {
  reply_fun = slice_index args 4;
  reply_env = slice_index args 5;
  reject_fun = slice_index args 6;
  reject_env = slice_index args 7;
  cleanup = None;
}

abbrev pub meaning : EntryKind → SystemCall → List ℕ → Now → Step Now
meaning kind call.MsgArgDataSize args now = says (length_answer now.es.view.arg) now
meaning kind call.MsgArgDataCopy args now = copies now.es.view.arg args now
meaning kind call.MsgCallerSize args now = says (length_answer now.es.view.caller) now
meaning kind call.MsgCallerCopy args now = copies now.es.view.caller args now
meaning kind call.MsgRejectCode args now = tells (msg_reject_code kind now.es) now
meaning kind call.MsgRejectMsgSize args now = says (length_answer now.es.view.reject_message) now
meaning kind call.MsgRejectMsgCopy args now = copies now.es.view.reject_message args now
meaning kind call.MsgReplyDataAppend args now = in_record (msg_reply_data_append (slice_index args 0) (slice_index args 1) now.lists.memory now.es) now.lists
meaning kind call.MsgReply args now = in_record (msg_reply now.es) now.lists
meaning kind call.MsgReject args now = in_record (msg_reject (slice_index args 0) (slice_index args 1) now.lists.memory now.es) now.lists
meaning kind call.MsgCyclesAvailable args now = says (amount_answer now.es.view.available) now
meaning kind call.MsgCyclesAvailable128 args now = puts now.es.view.available args now
meaning kind call.MsgCyclesRefunded args now = says (amount_answer now.es.view.refund) now
meaning kind call.MsgCyclesRefunded128 args now = puts now.es.view.refund args now
meaning kind call.MsgCyclesAccept args now = in_record (msg_cycles_accept (slice_index args 0) now.es) now.lists
meaning kind call.MsgCyclesAccept128 args now = msg_cycles_accept128 (slice_index args 0) (slice_index args 1) (slice_index args 2) now
meaning kind call.CanisterSelfSize args now = says (length_answer now.es.view.id) now
meaning kind call.CanisterSelfCopy args now = copies now.es.view.id args now
meaning kind call.CanisterCycleBalance args now = says (amount_answer now.es.view.balance) now
meaning kind call.CanisterCycleBalance128 args now = puts now.es.view.balance args now
meaning kind call.CanisterStatus args now = tells now.es.view.phase_number now
meaning kind call.IsController args now = says (is_controller (slice_index args 0) (slice_index args 1) now.lists.memory now.es) now
meaning kind call.MsgMethodNameSize args now = says (length_answer now.es.view.method) now
meaning kind call.MsgMethodNameCopy args now = copies now.es.view.method args now
meaning kind call.AcceptMessage args now = in_record (accept_message now.es) now.lists
meaning kind call.CallNew args now = in_record (call_new (slice_index args 0) (slice_index args 1) (slice_index args 2) (slice_index args 3) (callback_of args) now.lists.memory now.es) now.lists
meaning kind call.CallOnCleanup args now = in_record (call_on_cleanup (slice_index args 0) (slice_index args 1) now.es) now.lists
meaning kind call.CallDataAppend args now = in_record (call_data_append (slice_index args 0) (slice_index args 1) now.lists.memory now.es) now.lists
meaning kind call.CallCyclesAdd args now = in_record (call_cycles_add (slice_index args 0) now.es) now.lists
meaning kind call.CallCyclesAdd128 args now = in_record (call_cycles_add (whole (slice_index args 0) (slice_index args 1)) now.es) now.lists
meaning kind call.CallPerform args now = in_record (call_perform now.es) now.lists
meaning kind call.StableSize args now = tells (pages_of now.lists.stable) now
meaning kind call.StableGrow args now = in_lists now.es (stable_grow (2 ^ 32 - 1) (slice_index args 0) now.lists)
meaning kind call.StableWrite args now = in_lists now.es (stable_write (slice_index args 0) (slice_index args 1) (slice_index args 2) now.lists)
meaning kind call.StableRead args now = in_lists now.es (stable_read (slice_index args 0) (slice_index args 1) (slice_index args 2) now.lists)
meaning kind call.Stable64Size args now = tells (pages_of now.lists.stable) now
meaning kind call.Stable64Grow args now = in_lists now.es (stable_grow (2 ^ 64 - 1) (slice_index args 0) now.lists)
meaning kind call.Stable64Write args now = in_lists now.es (stable_write (slice_index args 0) (slice_index args 1) (slice_index args 2) now.lists)
meaning kind call.Stable64Read args now = in_lists now.es (stable_read (slice_index args 0) (slice_index args 1) (slice_index args 2) now.lists)
meaning kind call.CertifiedDataSet args now = in_record (certified_data_set (slice_index args 0) (slice_index args 1) now.lists.memory now.es) now.lists
meaning kind call.DataCertificatePresent args now = tells 0 now
meaning kind call.Time args now = tells now.es.view.time now
meaning kind call.DebugPrint args now = done now
meaning kind call.Trap args now = traps (trap_with (slice_index args 0) (slice_index args 1) now.lists.memory) now
