-- What a line that compares two interface files prints.
use Rattle.std.specs.Prelude.{◌≡◌, IsTrue, ℕ, Bool, true, false, ◌++◌, List, codes, if◌then◌else◌, Option, Some, None, Result, Ok, Err}
use Rattle.cd_types.specs.declared.entry.TyRef.{TyRef}
use Rattle.cd_types.specs.declared.entry.Entry.{Entry}
use Rattle.cd_sub.specs.Below.{below}
use Rattle.cd_did.specs.declared.fault.DidFault.{DidFault}
use Rattle.cd_did.specs.declared.fault.DidFault.TheVariants as fault
use Rattle.cd_did.specs.declared.fault.Interface.{Interface}
use Rattle.cd_grammar.specs.File.{File}
use Rattle.cd_did.specs.Answers.{Answers}
use Rattle.cd_did.specs.Interfaces.{has_service}
use Rattle.cd_did.specs.InterfaceOf.{interface_in}
use Rattle.ic_candid_lines.specs.declared.upgrading.Lack.{Lack}
use Rattle.ic_candid_lines.specs.declared.upgrading.Lack.TheVariants.{NotInterface, Float, Repeated, Unbound, Vacuous, Shape, TooMany, NoService}
use Rattle.ic_candid_lines.specs.Decoding.{newline}

-- the name of what a file lacks
unfoldable pub lack_name : Lack → List ℕ
lack_name NotInterface = codes "NotInterface"
lack_name Float = codes "Float"
lack_name Repeated = codes "Repeated"
lack_name Unbound = codes "Unbound"
lack_name Vacuous = codes "Vacuous"
lack_name Shape = codes "Shape"
lack_name TooMany = codes "TooMany"
lack_name NoService = codes "NoService"

-- a fault as a lack; out of memory is never said
abbrev pub lack_of : DidFault → Lack
lack_of fault.NotInterface = NotInterface
lack_of fault.Float = Float
lack_of (fault.Repeated place) = Repeated
lack_of fault.Unbound = Unbound
lack_of (fault.Vacuous place) = Vacuous
lack_of fault.Shape = Shape
lack_of fault.TooMany = TooMany
lack_of fault.NoMemory = NotInterface

-- an interface with a service, or what the file lacks
abbrev pub served : Result Interface DidFault → Result Interface Lack
served (Ok interface) = if has_service interface then Ok interface else Err NoService
served (Err fault) = Err (lack_of fault)

-- what a file lacks that no upgrade of it is judged: it has this fault and none before it, or it has no fault and no service
abbrev pub Lacks : File → Lack → Type 0
Lacks file NotInterface = ⊥
Lacks file Float = Answers file (Err fault.Float)
Lacks file Repeated = (place : ℕ) × Answers file (Err (fault.Repeated place))
Lacks file Unbound = Answers file (Err fault.Unbound)
Lacks file Vacuous = (place : ℕ) × Answers file (Err (fault.Vacuous place))
Lacks file Shape = Answers file (Err fault.Shape)
Lacks file TooMany = Answers file (Err fault.TooMany)
Lacks file NoService = (interface : Interface) × Answers file (Ok interface) × (file.main ≡ None)

-- what a file says: an interface that stands for it, with a service, or what it lacks
abbrev pub FileSays : File → Result Interface Lack → Type 0
FileSays file (Ok interface) = Answers file (Ok interface) × IsTrue (has_service interface)
FileSays file (Err lack) = Lacks file lack

-- the service of the lower table is a subtype of that of the upper one
abbrev pub is_below : List Entry → Option TyRef → List Entry → Option TyRef → Bool
is_below lower (Some after) upper (Some before) = below lower after upper before
is_below lower (Some after) upper None = false
is_below lower None upper before = false

-- each caller of the old service can call the new one
abbrev pub upgrades : Interface → Interface → Bool
upgrades old new = is_below new.table new.service old.table old.service

-- for two interfaces
unfoldable pub verdict_text : Bool → List ℕ
verdict_text true = codes "upgradable yes" ++ newline
verdict_text false = codes "upgradable no" ++ newline

-- for a file that lacks something
unfoldable pub bad_text : List ℕ → Lack → List ℕ
bad_text which lack = codes "bad interface " ++ (which ++ (codes " " ++ (lack_name lack ++ newline)))

-- for an old interface and what the new file says
abbrev pub upgrade_to_text : Interface → Result Interface Lack → List ℕ
upgrade_to_text old (Ok new) = verdict_text (upgrades old new)
upgrade_to_text old (Err lack) = bad_text (codes "new") lack

-- for what both files say; the old one is looked at first
abbrev pub upgrade_from_text : Result Interface Lack → Result Interface Lack → List ℕ
upgrade_from_text (Ok old) new = upgrade_to_text old new
upgrade_from_text (Err lack) new = bad_text (codes "old") lack

-- what is printed for two interface files
unfoldable pub upgrade_text : List ℕ → List ℕ → List ℕ
upgrade_text from to = upgrade_from_text (served (interface_in from)) (served (interface_in to))
