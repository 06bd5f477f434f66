-- The System API (IC Interface Specification, "System API"): the functions that a canister may
-- import from the module `ic0`, in this project's profile, each with its parameters and its result.
use Rattle.std.specs.Prelude.{ℕ, List, [], ◌∷◌, Option, Some, None, codes, bytes_eq, find}
use Rattle.std.specs.List.{position_or_len}
use Rattle.wm_tree.specs.declared.types.ValType.{ValType}
use Rattle.wm_tree.specs.declared.types.ValType.TheVariants.{I32, I64}
use Rattle.wm_valid.specs.declared.system_api.SystemCall.{SystemCall}
use Rattle.wm_valid.specs.declared.system_api.SystemCall.TheVariants as call

-- a row of the table
pub record Row : Type 0 where
  pub name : List ℕ
  pub params : List ValType
  pub result : Option ValType

abbrev pub row : List ℕ → List ValType → Option ValType → Row
row name params result = record { name = name; params = params; result = result }

-- the row of a call
abbrev pub row_of : SystemCall → Row
row_of call.MsgArgDataSize = row (codes "msg_arg_data_size") [] (Some I32)
row_of call.MsgArgDataCopy = row (codes "msg_arg_data_copy") (I32 ∷ I32 ∷ I32 ∷ []) None
row_of call.MsgCallerSize = row (codes "msg_caller_size") [] (Some I32)
row_of call.MsgCallerCopy = row (codes "msg_caller_copy") (I32 ∷ I32 ∷ I32 ∷ []) None
row_of call.MsgRejectCode = row (codes "msg_reject_code") [] (Some I32)
row_of call.MsgRejectMsgSize = row (codes "msg_reject_msg_size") [] (Some I32)
row_of call.MsgRejectMsgCopy = row (codes "msg_reject_msg_copy") (I32 ∷ I32 ∷ I32 ∷ []) None
row_of call.MsgReplyDataAppend = row (codes "msg_reply_data_append") (I32 ∷ I32 ∷ []) None
row_of call.MsgReply = row (codes "msg_reply") [] None
row_of call.MsgReject = row (codes "msg_reject") (I32 ∷ I32 ∷ []) None
row_of call.MsgCyclesAvailable = row (codes "msg_cycles_available") [] (Some I64)
row_of call.MsgCyclesAvailable128 = row (codes "msg_cycles_available128") (I32 ∷ []) None
row_of call.MsgCyclesRefunded = row (codes "msg_cycles_refunded") [] (Some I64)
row_of call.MsgCyclesRefunded128 = row (codes "msg_cycles_refunded128") (I32 ∷ []) None
row_of call.MsgCyclesAccept = row (codes "msg_cycles_accept") (I64 ∷ []) (Some I64)
row_of call.MsgCyclesAccept128 = row (codes "msg_cycles_accept128") (I64 ∷ I64 ∷ I32 ∷ []) None
row_of call.CanisterSelfSize = row (codes "canister_self_size") [] (Some I32)
row_of call.CanisterSelfCopy = row (codes "canister_self_copy") (I32 ∷ I32 ∷ I32 ∷ []) None
row_of call.CanisterCycleBalance = row (codes "canister_cycle_balance") [] (Some I64)
row_of call.CanisterCycleBalance128 = row (codes "canister_cycle_balance128") (I32 ∷ []) None
row_of call.CanisterStatus = row (codes "canister_status") [] (Some I32)
row_of call.IsController = row (codes "is_controller") (I32 ∷ I32 ∷ []) (Some I32)
row_of call.MsgMethodNameSize = row (codes "msg_method_name_size") [] (Some I32)
row_of call.MsgMethodNameCopy = row (codes "msg_method_name_copy") (I32 ∷ I32 ∷ I32 ∷ []) None
row_of call.AcceptMessage = row (codes "accept_message") [] None
row_of call.CallNew = row (codes "call_new") (I32 ∷ I32 ∷ I32 ∷ I32 ∷ I32 ∷ I32 ∷ I32 ∷ I32 ∷ []) None
row_of call.CallOnCleanup = row (codes "call_on_cleanup") (I32 ∷ I32 ∷ []) None
row_of call.CallDataAppend = row (codes "call_data_append") (I32 ∷ I32 ∷ []) None
row_of call.CallCyclesAdd = row (codes "call_cycles_add") (I64 ∷ []) None
row_of call.CallCyclesAdd128 = row (codes "call_cycles_add128") (I64 ∷ I64 ∷ []) None
row_of call.CallPerform = row (codes "call_perform") [] (Some I32)
row_of call.StableSize = row (codes "stable_size") [] (Some I32)
row_of call.StableGrow = row (codes "stable_grow") (I32 ∷ []) (Some I32)
row_of call.StableWrite = row (codes "stable_write") (I32 ∷ I32 ∷ I32 ∷ []) None
row_of call.StableRead = row (codes "stable_read") (I32 ∷ I32 ∷ I32 ∷ []) None
row_of call.Stable64Size = row (codes "stable64_size") [] (Some I64)
row_of call.Stable64Grow = row (codes "stable64_grow") (I64 ∷ []) (Some I64)
row_of call.Stable64Write = row (codes "stable64_write") (I64 ∷ I64 ∷ I64 ∷ []) None
row_of call.Stable64Read = row (codes "stable64_read") (I64 ∷ I64 ∷ I64 ∷ []) None
row_of call.CertifiedDataSet = row (codes "certified_data_set") (I32 ∷ I32 ∷ []) None
row_of call.DataCertificatePresent = row (codes "data_certificate_present") [] (Some I32)
row_of call.Time = row (codes "time") [] (Some I64)
row_of call.DebugPrint = row (codes "debug_print") (I32 ∷ I32 ∷ []) None
row_of call.Trap = row (codes "trap") (I32 ∷ I32 ∷ []) None

-- the calls in the order of the table; a call's number is its place from 0
abbrev pub calls : List SystemCall
calls =
    call.MsgArgDataSize ∷
    call.MsgArgDataCopy ∷
    call.MsgCallerSize ∷
    call.MsgCallerCopy ∷
    call.MsgRejectCode ∷
    call.MsgRejectMsgSize ∷
    call.MsgRejectMsgCopy ∷
    call.MsgReplyDataAppend ∷
    call.MsgReply ∷
    call.MsgReject ∷
    call.MsgCyclesAvailable ∷
    call.MsgCyclesAvailable128 ∷
    call.MsgCyclesRefunded ∷
    call.MsgCyclesRefunded128 ∷
    call.MsgCyclesAccept ∷
    call.MsgCyclesAccept128 ∷
    call.CanisterSelfSize ∷
    call.CanisterSelfCopy ∷
    call.CanisterCycleBalance ∷
    call.CanisterCycleBalance128 ∷
    call.CanisterStatus ∷
    call.IsController ∷
    call.MsgMethodNameSize ∷
    call.MsgMethodNameCopy ∷
    call.AcceptMessage ∷
    call.CallNew ∷
    call.CallOnCleanup ∷
    call.CallDataAppend ∷
    call.CallCyclesAdd ∷
    call.CallCyclesAdd128 ∷
    call.CallPerform ∷
    call.StableSize ∷
    call.StableGrow ∷
    call.StableWrite ∷
    call.StableRead ∷
    call.Stable64Size ∷
    call.Stable64Grow ∷
    call.Stable64Write ∷
    call.Stable64Read ∷
    call.CertifiedDataSet ∷
    call.DataCertificatePresent ∷
    call.Time ∷
    call.DebugPrint ∷
    call.Trap ∷
    []

-- the call of that name
abbrev pub call_named : List ℕ → Option SystemCall
call_named name = find (λ c. bytes_eq (row_of c).name name) calls

-- a call's place in the table
abbrev pub number_of : SystemCall → ℕ
number_of call = position_or_len (λ c. bytes_eq (row_of c).name (row_of call).name) calls
