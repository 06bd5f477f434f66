-- What a move of a test asks, with what the names stand for, or why nothing is asked.
use Rattle.std.specs.Prelude.{◌≡◌, ◌⊎◌, ℕ, false, IsTrue, nat_lt, if◌then◌else◌, List, length, option_map, Option, Some}
use Rattle.ic_base.specs.Reader.{◌>>=◌}
use Rattle.cd_types.specs.declared.entry.TyRef.{TyRef}
use Rattle.cd_did.specs.declared.fault.Interface.{Interface}
use Rattle.cd_did.specs.Interfaces.{has_service, Upgrades}
use Rattle.ic_behaviour.specs.declared.install.Mode.{Mode}
use Rattle.ic_behaviour.specs.declared.install.Mode.TheVariants.{Reinstall, Upgrade}
use Rattle.ic_script.specs.declared.Ask.{Ask}
use Rattle.ct_scope.specs.declared.bound.InterfaceId.{InterfaceId}
use Rattle.ct_sources.specs.Files.{Files, file_bytes, interface_of}
use Rattle.ct_check.specs.Filling.{Filling}
use Rattle.ct_check.specs.Moving.{Moving}
use Rattle.ct_check.specs.declared.checked.CheckedAction.{CheckedAction}
use Rattle.ct_check.specs.declared.checked.CheckedAction.TheVariants as actions
use Rattle.ct_check.specs.declared.checked.CheckedChange.{CheckedChange}
use Rattle.ct_check.specs.declared.checked.CheckedCreation.{CheckedCreation}
use Rattle.ct_check.specs.declared.checked.CheckedMessage.{CheckedMessage}
use Rattle.ct_outcomes.specs.declared.named.Named.{Named}
use Rattle.ct_outcomes.specs.declared.came.Came.TheVariants.{NotValues, NotUpgradable, ArgumentTooLong}
use Rattle.ct_outcomes.specs.Types.{Types}
use Rattle.ct_outcomes.specs.Standings.{principal_of, standing_at}
use Rattle.ct_outcomes.specs.Arguments.{IsArgument}
use Rattle.ct_asked.specs.declared.asked.Asked.{Asked}
use Rattle.ct_asked.specs.declared.asked.Asked.TheVariants.{Call, Query, Nothing}
use Rattle.ct_asked.specs.Requests.{Code, installing}

-- the most bytes of an argument
abbrev pub most_bytes : ℕ
most_bytes = 2097152

-- what is asked, as a call or a query, unless its argument is too long
abbrev pub unless_too_long : (Ask → Asked) → Ask → Asked
unless_too_long way ask = if nat_lt most_bytes (length ask.arg) then Nothing ArgumentTooLong else way ask

-- the principal that the name in a slot stands for; a value that is no principal and no service has none
abbrev pub principal_at : List Named → ℕ → Option (List ℕ)
principal_at names slot = standing_at names slot >>= principal_of

-- types of an interface: its table, and references into it
abbrev pub types_of : Files → InterfaceId → List TyRef → Option Types
types_of files id types = option_map (λ interface. (interface.table, types)) (interface_of files id)

-- the types that the service of an interface is installed with
abbrev pub init_types_of : Files → InterfaceId → Option Types
init_types_of files id = option_map (λ interface. (interface.table, interface.init)) (interface_of files id)

-- ---- calls and queries

pub record IsMessage (files : Files) (names : List Named) (by : ℕ) (message : CheckedMessage) (ask : Ask) : Type 0 where
  pub types : Types
  pub sender : principal_at names by ≡ Some ask.sender
  pub callee : principal_at names message.canister ≡ Some ask.callee
  pub method : ask.method ≡ message.name
  pub typed : types_of files message.interface message.method.args ≡ Some types
  pub argument : IsArgument types names (Some message.arguments) ask.arg

-- ---- modules

-- the module of a file, and what is filled in as its argument
pub record IsCode (files : Files) (names : List Named) (wasm : ℕ) (interface : InterfaceId) (arguments : Option Filling) (code : Code) : Type 0 where
  pub types : Types
  pub file : file_bytes files wasm ≡ Some code.wasm
  pub typed : init_types_of files interface ≡ Some types
  pub argument : IsArgument types names arguments code.arg

-- the canister in a slot gets another module
pub record IsChange (files : Files) (names : List Named) (by : ℕ) (mode : Mode) (change : CheckedChange) (ask : Ask) : Type 0 where
  pub sender : List ℕ
  pub canister : List ℕ
  pub code : Code
  pub from : principal_at names by ≡ Some sender
  pub to : principal_at names change.canister ≡ Some canister
  pub installed : IsCode files names change.wasm change.interface change.arguments code
  pub asks : ask ≡ installing sender canister mode code

-- who makes a canister, and of which module and argument
pub record IsCreation (files : Files) (names : List Named) (by : ℕ) (creation : CheckedCreation) (made : List ℕ × Code) : Type 0 where
  pub from : principal_at names by ≡ Some made.0
  pub installed : IsCode files names creation.wasm creation.interface creation.arguments made.1

-- the new interface is a subtype of the one in use; each file that is read as an interface has a service
abbrev pub IsUpgradable : Files → CheckedChange → Type 0
IsUpgradable files change =
    (old : Interface) × (new : Interface) × (interface_of files change.before ≡ Some old) × (interface_of files change.interface ≡ Some new)
    × IsTrue (has_service old) × IsTrue (has_service new) × Upgrades old new

-- ---- moves

-- the message is asked, as a call or a query, unless it is too long; or there is none: in a checked file only because the arguments are no values
-- of their types
abbrev pub Asks : (Ask → Asked) → (Ask → Type 0) → Asked → Type 0
Asks way IsMeant asked = ((ask : Ask) × IsMeant ask × (asked ≡ unless_too_long way ask)) ⊎ (((ask : Ask) → IsMeant ask → ⊥) × (asked ≡ Nothing NotValues))

-- where a canister may not be upgraded nothing is asked
abbrev pub AsksUpgrade : Files → List Named → ℕ → CheckedChange → Asked → Type 0
AsksUpgrade files names by change asked =
    (IsUpgradable files change × Asks Call (IsChange files names by (Upgrade false) change) asked)
    ⊎ ((IsUpgradable files change → ⊥) × (asked ≡ Nothing NotUpgradable))

-- what an action asks, by the user in a slot
abbrev pub AsksBy : Files → List Named → ℕ → CheckedAction → Asked → Type 0
AsksBy files names by (actions.Call message) asked = Asks Call (IsMessage files names by message) asked
AsksBy files names by (actions.Query message) asked = Asks Query (IsMessage files names by message) asked
AsksBy files names by (actions.Upgrade change) asked = AsksUpgrade files names by change asked
AsksBy files names by (actions.Reinstall change) asked = Asks Call (IsChange files names by Reinstall change) asked

-- what a move asks
abbrev pub IsAsked : Files → List Named → Moving → Asked → Type 0
IsAsked files names moving asked = AsksBy files names moving.by moving.action asked
