-- What is found of what a move says, and where nothing is.
use Rattle.std.proofs.Common.{◌≡◌, ℕ, List, Option, Some, None, sym, ◌∙◌, subst}
use Rattle.ic_base.proofs.Steps.{some_is}
use Rattle.ic_behaviour.specs.declared.install.Mode.{Mode}
use Rattle.ic_script.specs.declared.Ask.{Ask}
use Rattle.ct_scope.specs.declared.bound.InterfaceId.{InterfaceId}
use Rattle.ct_sources.specs.Files.{Files, file_bytes}
use Rattle.ct_check.specs.Filling.{Filling}
use Rattle.ct_check.specs.declared.checked.CheckedChange.{CheckedChange}
use Rattle.ct_check.specs.declared.checked.CheckedCreation.{CheckedCreation}
use Rattle.ct_check.specs.declared.checked.CheckedMessage.{CheckedMessage}
use Rattle.ct_outcomes.specs.declared.named.Named.{Named}
use Rattle.ct_outcomes.specs.Types.{Types}
use Rattle.ct_outcomes.specs.Arguments.{IsArgument}
use Rattle.ct_asked.specs.Requests.{Code}
use Rattle.ct_asked.specs.Asked.{principal_at, types_of, init_types_of, IsMessage, IsCode, IsChange, IsCreation}

none_is_some : {A : Type 0} (found : Option A) (x : A) → found ≡ None → found ≡ Some x → ⊥
none_is_some found x none some = absurd (let e : Some x ≡ None = sym some ∙ none in cc)

-- ---- calls and queries

module _ (files : Files) (names : List Named) (by : ℕ) (message : CheckedMessage) where
  pub message_types : types_of files message.interface message.method.args ≡ None → (ask : Ask) → IsMessage files names by message ask → ⊥
  message_types none ask is = none_is_some _ is.types none is.typed

  pub message_sender : principal_at names by ≡ None → (ask : Ask) → IsMessage files names by message ask → ⊥
  message_sender none ask is = none_is_some _ ask.sender none is.sender

  pub message_callee : principal_at names message.canister ≡ None → (ask : Ask) → IsMessage files names by message ask → ⊥
  message_callee none ask is = none_is_some _ ask.callee none is.callee

  pub message_argument : (types : Types) → types_of files message.interface message.method.args ≡ Some types
      → ((arg : List ℕ) → IsArgument types names (Some message.arguments) arg → ⊥) → (ask : Ask) → IsMessage files names by message ask → ⊥
  message_argument types typed none ask is =
      none ask.arg (subst (λ (t : Types). IsArgument t names (Some message.arguments) ask.arg) (some_is is.types types (sym is.typed ∙ typed)) is.argument)

-- ---- modules

module _ (files : Files) (names : List Named) (wasm : ℕ) (interface : InterfaceId) (arguments : Option Filling) where
  pub code_types : init_types_of files interface ≡ None → (code : Code) → IsCode files names wasm interface arguments code → ⊥
  code_types none code is = none_is_some _ is.types none is.typed

  pub code_file : file_bytes files wasm ≡ None → (code : Code) → IsCode files names wasm interface arguments code → ⊥
  code_file none code is = none_is_some _ code.wasm none is.file

  pub code_argument : (types : Types) → init_types_of files interface ≡ Some types
      → ((arg : List ℕ) → IsArgument types names arguments arg → ⊥) → (code : Code) → IsCode files names wasm interface arguments code → ⊥
  code_argument types typed none code is =
      none code.arg (subst (λ (t : Types). IsArgument t names arguments code.arg) (some_is is.types types (sym is.typed ∙ typed)) is.argument)

-- ---- what a canister gets, and canisters that are made

module _ (files : Files) (names : List Named) (by : ℕ) (mode : Mode) (change : CheckedChange) where
  pub change_sender : principal_at names by ≡ None → (ask : Ask) → IsChange files names by mode change ask → ⊥
  change_sender none ask is = none_is_some _ is.sender none is.from

  pub change_canister : principal_at names change.canister ≡ None → (ask : Ask) → IsChange files names by mode change ask → ⊥
  change_canister none ask is = none_is_some _ is.canister none is.to

  pub change_code : ((code : Code) → IsCode files names change.wasm change.interface change.arguments code → ⊥) → (ask : Ask) → IsChange files names by mode change ask → ⊥
  change_code none ask is = none is.code is.installed

module _ (files : Files) (names : List Named) (by : ℕ) (creation : CheckedCreation) where
  pub creation_sender : principal_at names by ≡ None → (made : List ℕ × Code) → IsCreation files names by creation made → ⊥
  creation_sender none made is = none_is_some _ made.0 none is.from

  pub creation_code : ((code : Code) → IsCode files names creation.wasm creation.interface creation.arguments code → ⊥)
      → (made : List ℕ × Code) → IsCreation files names by creation made → ⊥
  creation_code none made is = none made.1 is.installed
