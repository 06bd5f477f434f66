-- Why the management canister refuses a call, and what the caller is told (IC Interface Specification, "Reject codes"). Which code stands for what, and the texts, are a profile of this project.
use Rattle.std.specs.Prelude.{ℕ, List, [], ◌++◌, codes, decimal}
use Rattle.ic_principal.specs.Text.{text_of as principal_text}
use Rattle.wm_decode.specs.declared.fault.ModuleFault.TheVariants as F
use Rattle.wm_valid.specs.declared.invalid.Invalid.TheVariants as I
use Rattle.wm_semantics.specs.Texts.{text_of as trap_text}
use Rattle.ic_behaviour.specs.declared.call.Response.{Response}
use Rattle.ic_behaviour.specs.declared.call.Response.TheVariants.{Reject}
use Rattle.ic_behaviour.specs.declared.install.InstallFault.{InstallFault}
use Rattle.ic_behaviour.specs.declared.install.InstallFault.TheVariants.{Trapped, Segment}
use Rattle.ic_mgmt_candid.specs.declared.cause.Cause.{Cause}
use Rattle.ic_mgmt_candid.specs.declared.cause.Cause.TheVariants.{Undecoded, Unchecked}
use Rattle.ic_mgmt_candid.specs.declared.denial.Denial.{Denial}
use Rattle.ic_mgmt_candid.specs.declared.denial.Denial.TheVariants as D

-- destination invalid, or canister error
abbrev pub code_of : Denial → ℕ
code_of (D.NoCanister id) = 3
code_of _ = 5

-- the name of a cause, and the number of what is not valid; memory that ran out is no cause that comes
abbrev pub cause_name : Cause → List ℕ
cause_name (Undecoded F.TooLarge) = codes "TooLarge"
cause_name (Undecoded F.Compressed) = codes "Compressed"
cause_name (Undecoded F.Float) = codes "Float"
cause_name (Undecoded F.NotModule) = codes "NotModule"
cause_name (Undecoded F.NoMemory) = []
cause_name (Unchecked (I.Import number)) = codes "Import " ++ decimal number
cause_name (Unchecked (I.Index section)) = codes "Index " ++ decimal section
cause_name (Unchecked (I.Size section)) = codes "Size " ++ decimal section
cause_name (Unchecked (I.Entry export)) = codes "Entry " ++ decimal export
cause_name (Unchecked (I.Nesting function)) = codes "Nesting " ++ decimal function
cause_name (Unchecked (I.Untyped function)) = codes "Untyped " ++ decimal function
cause_name (Unchecked I.NoMemory) = []

unfoldable pub cause_text : Cause → List ℕ
cause_text cause = codes "module refused: " ++ cause_name cause

abbrev pub fault_text : InstallFault → List ℕ
fault_text Segment = codes "segment out of bounds"
fault_text (Trapped cause) = codes "install trapped: " ++ trap_text cause

unfoldable pub text_of : Denial → List ℕ
text_of D.NoMethod = codes "no such management method"
text_of D.OnlyForCanisters = codes "only for canisters"
text_of D.NotDecoded = codes "argument not decoded"
text_of (D.NoCanister id) = codes "no canister " ++ principal_text id
text_of D.NotController = codes "not a controller"
text_of D.TooManyControllers = codes "too many controllers"
text_of D.TooManyCanisters = codes "too many canisters"
text_of D.TooManyCycles = codes "too many cycles"
text_of (D.ModuleRefused cause) = cause_text cause
text_of D.HasModule = codes "canister has a module"
text_of D.NoModule = codes "canister has no module"
text_of (D.NotInstalled fault) = fault_text fault
text_of D.NotStopped = codes "canister is not stopped"

-- the answer to a call that is refused
abbrev pub denies : Denial → Response
denies denial = Reject (code_of denial) (text_of denial)
