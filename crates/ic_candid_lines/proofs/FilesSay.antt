-- What an interface file says, where what its text says is known.
use Rattle.std.proofs.Common.{◌≡◌, Bool, true, false, Option, Some, None, Result, Ok, Err, IfOk, refl, sym, ◌∙◌}
use Rattle.std.specs.Prelude.{IsTrue, IfSome, length, List}
use Rattle.cd_types.specs.declared.entry.TyRef.{TyRef}
use Rattle.cd_types.specs.declared.entry.Entry.{Entry}
use Rattle.cd_types.specs.IsInside.{is_inside}
use Rattle.cd_grammar.specs.File.{File}
use Rattle.cd_grammar.specs.declared.written.Main.{Main}
use Rattle.cd_did.specs.declared.fault.DidFault.{DidFault}
use Rattle.cd_did.specs.declared.fault.DidFault.TheVariants.{NotInterface, Float, Repeated, Unbound, Vacuous, Shape, TooMany, NoMemory}
use Rattle.cd_did.specs.declared.fault.Interface.{Interface}
use Rattle.cd_did.specs.Answers.{Answers}
use Rattle.cd_did.specs.Denotes.{MainStands}
use Rattle.cd_did.specs.Interfaces.{IsWithin, is_service_in, has_service}
use Rattle.ic_candid_lines.specs.Upgrading.{served, FileSays}

-- a file whose service is in no table has none
no_main : (file : File) (table : List Entry) (main : Option Main) (service : Option TyRef) → MainStands file table main service → IfSome service (λ r. IsTrue (is_inside (length table) r)) → is_service_in (length table) service ≡ false → main ≡ None
no_main file table None service stands within e = refl
no_main file table (Some main) None stands within e = absurd stands
no_main file table (Some main) (Some r) stands within e = let k : true ≡ false = sym within ∙ e in absurd cc

says_by : (file : File) (interface : Interface) → Answers file (Ok interface) → IsWithin interface → (b : Bool) → has_service interface ≡ b → FileSays file (served (Ok interface))
says_by file interface has within true e = rw e (has, e)
says_by file interface has within false e = rw e (interface, has, no_main file interface.table file.main interface.service has.2.main within e)

pub file_says : (file : File) (said : Result Interface DidFault) → Answers file said → IfOk said IsWithin → (said ≡ Err NoMemory → ⊥) → FileSays file (served said)
file_says file (Ok interface) has within never = says_by file interface has within (has_service interface) refl
file_says file (Err NotInterface) has within never = has
file_says file (Err Float) has within never = has
file_says file (Err (Repeated place)) has within never = (place, has)
file_says file (Err Unbound) has within never = has
file_says file (Err (Vacuous place)) has within never = (place, has)
file_says file (Err Shape) has within never = has
file_says file (Err TooMany) has within never = has
file_says file (Err NoMemory) has within never = absurd (never refl)
