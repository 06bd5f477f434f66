-- Which entry points may use a call (IC Interface Specification, "System API", "Overview of imports"), in this project's profile.
use Rattle.std.specs.Prelude.{Bool, true, false}
use Rattle.wm_valid.specs.declared.system_api.SystemCall.{SystemCall}
use Rattle.wm_valid.specs.declared.system_api.SystemCall.TheVariants as call
use Rattle.ic_behaviour.specs.declared.execution.EntryKind.{EntryKind}
use Rattle.ic_behaviour.specs.declared.execution.EntryKind.TheVariants as kind
use Rattle.ic_api.specs.declared.kinds.Kinds.{Kinds}
use Rattle.ic_api.specs.declared.kinds.Kinds.TheVariants as kinds

abbrev pub kinds_of : SystemCall → Kinds
kinds_of call.MsgArgDataSize = kinds.WithArgument
kinds_of call.MsgArgDataCopy = kinds.WithArgument
kinds_of call.MsgCallerSize = kinds.AllButStart
kinds_of call.MsgCallerCopy = kinds.AllButStart
kinds_of call.MsgRejectCode = kinds.Callbacks
kinds_of call.MsgRejectMsgSize = kinds.Rejected
kinds_of call.MsgRejectMsgCopy = kinds.Rejected
kinds_of call.MsgReplyDataAppend = kinds.Answering
kinds_of call.MsgReply = kinds.Answering
kinds_of call.MsgReject = kinds.Answering
kinds_of call.MsgCyclesAvailable = kinds.Calling
kinds_of call.MsgCyclesAvailable128 = kinds.Calling
kinds_of call.MsgCyclesRefunded = kinds.Callbacks
kinds_of call.MsgCyclesRefunded128 = kinds.Callbacks
kinds_of call.MsgCyclesAccept = kinds.Calling
kinds_of call.MsgCyclesAccept128 = kinds.Calling
kinds_of call.CanisterSelfSize = kinds.AllButStart
kinds_of call.CanisterSelfCopy = kinds.AllButStart
kinds_of call.CanisterCycleBalance = kinds.AllButStart
kinds_of call.CanisterCycleBalance128 = kinds.AllButStart
kinds_of call.CanisterStatus = kinds.AllButStart
kinds_of call.IsController = kinds.AllButStart
kinds_of call.MsgMethodNameSize = kinds.Inspecting
kinds_of call.MsgMethodNameCopy = kinds.Inspecting
kinds_of call.AcceptMessage = kinds.Inspecting
kinds_of call.CallNew = kinds.Calling
kinds_of call.CallOnCleanup = kinds.Calling
kinds_of call.CallDataAppend = kinds.Calling
kinds_of call.CallCyclesAdd = kinds.Calling
kinds_of call.CallCyclesAdd128 = kinds.Calling
kinds_of call.CallPerform = kinds.Calling
kinds_of call.StableSize = kinds.AllButStart
kinds_of call.StableGrow = kinds.AllButStart
kinds_of call.StableWrite = kinds.AllButStart
kinds_of call.StableRead = kinds.AllButStart
kinds_of call.Stable64Size = kinds.AllButStart
kinds_of call.Stable64Grow = kinds.AllButStart
kinds_of call.Stable64Write = kinds.AllButStart
kinds_of call.Stable64Read = kinds.AllButStart
kinds_of call.CertifiedDataSet = kinds.Certifying
kinds_of call.DataCertificatePresent = kinds.AllButStart
kinds_of call.Time = kinds.AllButStart
kinds_of call.DebugPrint = kinds.All
kinds_of call.Trap = kinds.All

-- I U Q Y F
abbrev pub has_argument : EntryKind → Bool
has_argument kind.Init = true
has_argument kind.PreUpgrade = false
has_argument kind.Update = true
has_argument kind.Query = true
has_argument kind.Reply = true
has_argument kind.Reject = false
has_argument kind.Cleanup = false
has_argument kind.Start = false
has_argument kind.Inspect = true

-- all but S
abbrev pub is_no_start : EntryKind → Bool
is_no_start kind.Start = false
is_no_start _ = true

-- Y T
abbrev pub is_callback : EntryKind → Bool
is_callback kind.Reply = true
is_callback kind.Reject = true
is_callback _ = false

-- T
abbrev pub is_rejected : EntryKind → Bool
is_rejected kind.Reject = true
is_rejected _ = false

-- U Y T
abbrev pub may_call : EntryKind → Bool
may_call kind.Update = true
may_call kind.Reply = true
may_call kind.Reject = true
may_call _ = false

-- U Q Y T
abbrev pub may_answer : EntryKind → Bool
may_answer kind.Update = true
may_answer kind.Query = true
may_answer kind.Reply = true
may_answer kind.Reject = true
may_answer _ = false

-- F
abbrev pub is_inspect : EntryKind → Bool
is_inspect kind.Inspect = true
is_inspect _ = false

-- I G U Y T
abbrev pub may_certify : EntryKind → Bool
may_certify kind.Init = true
may_certify kind.PreUpgrade = true
may_certify kind.Update = true
may_certify kind.Reply = true
may_certify kind.Reject = true
may_certify _ = false

abbrev pub has : Kinds → EntryKind → Bool
has kinds.WithArgument k = has_argument k
has kinds.AllButStart k = is_no_start k
has kinds.Callbacks k = is_callback k
has kinds.Rejected k = is_rejected k
has kinds.Answering k = may_answer k
has kinds.Calling k = may_call k
has kinds.Inspecting k = is_inspect k
has kinds.Certifying k = may_certify k
has kinds.All k = true
