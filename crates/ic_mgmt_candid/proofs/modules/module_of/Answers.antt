use Rattle.std.proofs.Common.{◌≡◌}
use Rattle.wm_decode.specs.declared.fault.ModuleFault.TheVariants as F
use Rattle.ic_mgmt_candid.proofs.ModuleLemmas.{module_read, fault_read}
use Rattle.ic_mgmt_candid.proofs.modules.module_of.Goals as goal

pub returns-in-Ok : goal.returns-in-Ok
returns-in-Ok c = rw (module_read c.args.bytes.now c.in-Ok.module c.in-Ok.ensures.found.0 c.in-Ok.ensures.found.1) c.checked.ensures

pub returns-in-Err-TooLarge : goal.returns-in-Err-TooLarge
returns-in-Err-TooLarge c = fault_read c.args.bytes.now F.TooLarge (λ e. let k : F.TooLarge ≡ F.NoMemory = e in cc) (rw c.in-Err-TooLarge.field-0-is at c.in-Err-TooLarge.ensures.faults)

pub returns-in-Err-Compressed : goal.returns-in-Err-Compressed
returns-in-Err-Compressed c = fault_read c.args.bytes.now F.Compressed (λ e. let k : F.Compressed ≡ F.NoMemory = e in cc) (rw c.in-Err-Compressed.field-0-is at c.in-Err-Compressed.ensures.faults)

pub returns-in-Err-Float : goal.returns-in-Err-Float
returns-in-Err-Float c = fault_read c.args.bytes.now F.Float (λ e. let k : F.Float ≡ F.NoMemory = e in cc) (rw c.in-Err-Float.field-0-is at c.in-Err-Float.ensures.faults)

pub returns-in-Err-NotModule : goal.returns-in-Err-NotModule
returns-in-Err-NotModule c = fault_read c.args.bytes.now F.NotModule (λ e. let k : F.NotModule ≡ F.NoMemory = e in cc) (rw c.in-Err-NotModule.field-0-is at c.in-Err-NotModule.ensures.faults)
