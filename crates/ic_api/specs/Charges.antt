-- What a call of the System API costs beside 1: the bytes that it handles, the pages by which it grows; no standard has this.
use Rattle.std.specs.Prelude.{ℕ, ◌+◌, List, nat_le, slice_index, if◌then◌else◌}
use Rattle.wm_valid.specs.declared.system_api.SystemCall.{SystemCall}
use Rattle.wm_valid.specs.declared.system_api.SystemCall.TheVariants as call
use Rattle.wm_store.specs.Lists.{Lists, pages_of}

-- the pages, if stable memory grows
abbrev pub growth : ℕ → Lists → ℕ
growth pages lists = if nat_le (pages_of lists.stable + pages) 256 then pages else 0

abbrev pub surcharge : SystemCall → List ℕ → Lists → ℕ
surcharge call.MsgArgDataSize args lists = 0
surcharge call.MsgArgDataCopy args lists = slice_index args 2
surcharge call.MsgCallerSize args lists = 0
surcharge call.MsgCallerCopy args lists = slice_index args 2
surcharge call.MsgRejectCode args lists = 0
surcharge call.MsgRejectMsgSize args lists = 0
surcharge call.MsgRejectMsgCopy args lists = slice_index args 2
surcharge call.MsgReplyDataAppend args lists = slice_index args 1
surcharge call.MsgReply args lists = 0
surcharge call.MsgReject args lists = slice_index args 1
surcharge call.MsgCyclesAvailable args lists = 0
surcharge call.MsgCyclesAvailable128 args lists = 16
surcharge call.MsgCyclesRefunded args lists = 0
surcharge call.MsgCyclesRefunded128 args lists = 16
surcharge call.MsgCyclesAccept args lists = 0
surcharge call.MsgCyclesAccept128 args lists = 16
surcharge call.CanisterSelfSize args lists = 0
surcharge call.CanisterSelfCopy args lists = slice_index args 2
surcharge call.CanisterCycleBalance args lists = 0
surcharge call.CanisterCycleBalance128 args lists = 16
surcharge call.CanisterStatus args lists = 0
surcharge call.IsController args lists = slice_index args 1
surcharge call.MsgMethodNameSize args lists = 0
surcharge call.MsgMethodNameCopy args lists = slice_index args 2
surcharge call.AcceptMessage args lists = 0
surcharge call.CallNew args lists = slice_index args 1 + slice_index args 3
surcharge call.CallOnCleanup args lists = 0
surcharge call.CallDataAppend args lists = slice_index args 1
surcharge call.CallCyclesAdd args lists = 0
surcharge call.CallCyclesAdd128 args lists = 0
surcharge call.CallPerform args lists = 0
surcharge call.StableSize args lists = 0
surcharge call.StableGrow args lists = growth (slice_index args 0) lists
surcharge call.StableWrite args lists = slice_index args 2
surcharge call.StableRead args lists = slice_index args 2
surcharge call.Stable64Size args lists = 0
surcharge call.Stable64Grow args lists = growth (slice_index args 0) lists
surcharge call.Stable64Write args lists = slice_index args 2
surcharge call.Stable64Read args lists = slice_index args 2
surcharge call.CertifiedDataSet args lists = slice_index args 1
surcharge call.DataCertificatePresent args lists = 0
surcharge call.Time args lists = 0
surcharge call.DebugPrint args lists = slice_index args 1
surcharge call.Trap args lists = slice_index args 1
