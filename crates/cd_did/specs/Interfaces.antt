-- Interfaces that are made of a file, and what they promise.
use Rattle.std.specs.Prelude.{◌≡◌, ℕ, Bool, true, false, List, length, map, Option, Some, None, option_map, Result, Ok, Err, IsTrue, IfSome}
use Rattle.std.specs.List.{list_all}
use Rattle.cd_types.specs.declared.entry.TyRef.{TyRef}
use Rattle.cd_types.specs.declared.entry.Entry.{Entry}
use Rattle.cd_types.specs.IsInside.{is_inside}
use Rattle.cd_types.specs.IsTable.{is_table}
use Rattle.cd_sub.specs.Sub.{Sub}
use Rattle.cd_grammar.specs.File.{File}
use Rattle.cd_did.specs.declared.fault.DidFault.{DidFault}
use Rattle.cd_did.specs.declared.fault.DidFault.TheVariants.{TooMany, NoMemory}
use Rattle.cd_did.specs.declared.fault.Interface.{Interface}
use Rattle.cd_did.specs.Answers.{HasTypes}
use Rattle.cd_did.specs.Denotes.{tuple_of}
use Rattle.cd_did.specs.Rings.{HasEnds, is_named_at, least_from}
use Rattle.cd_did.specs.Targets.{target}

-- each name of the file leads to a type, and its definitions lead to these ends
abbrev pub HasEnded : File → List ℕ → Type 0
HasEnded file ends = HasTypes file × HasEnds file.definitions ends × (least_from (is_named_at file.definitions) None ends ≡ None)

-- the reference to the service
abbrev pub service_at : File → List ℕ → Option TyRef
service_at file ends = option_map (λ main. target file.definitions ends main.service) file.main

-- the references to the types that the service is installed with
abbrev pub init_at : File → List ℕ → List TyRef
init_at file ends = map (target file.definitions ends) (tuple_of file.main)

-- the interface of these entries and the file's service, or that they are too many for a table
abbrev pub IsTabled : File → List ℕ → List Entry → Result Interface DidFault → Type 0
IsTabled file ends entries (Ok interface) = (interface ≡ record { table = entries; service = service_at file ends; init = init_at file ends }) × (is_table entries ≡ true)
IsTabled file ends entries (Err TooMany) = is_table entries ≡ false
IsTabled file ends entries (Err NoMemory) = Unit {0}
IsTabled file ends entries (Err _) = ⊥

-- the service, if there is one, is within the table
abbrev pub IsWithin : Interface → Type 0
IsWithin interface = IfSome interface.service (λ service. IsTrue (is_inside (length interface.table) service))

-- the types that the service is installed with are
abbrev pub IsInitWithin : Interface → Type 0
IsInitWithin interface = list_all (is_inside (length interface.table)) interface.init ≡ true

abbrev pub is_service_in : ℕ → Option TyRef → Bool
is_service_in count None = false
is_service_in count (Some service) = is_inside count service

-- there is a service, within the table
abbrev pub has_service : Interface → Bool
has_service interface = is_service_in (length interface.table) interface.service

-- the service of the new interface is a subtype of that of the old one
abbrev pub Upgrades : Interface → Interface → Type 0
Upgrades old new = (before : TyRef) × (after : TyRef) × (old.service ≡ Some before) × (new.service ≡ Some after) × Sub new.table after old.table before
