-- What must hold of a token of a test file: a row each, named by what is told where it does not hold.
use Rattle.std.specs.Prelude.{ℕ, Bool, ◌&&◌, not, ◌==◌, nat_le, if◌then◌else◌, List, [], ◌∷◌, ◌++◌, take, Option, Some, None, is_none, option_map}
use Rattle.ic_base.specs.Reader.{◌>>=◌}
use Rattle.sha2.specs.Sha256.{sha256}
use Rattle.ic_principal.specs.Text.{principal_of}
use Rattle.cd_types.specs.declared.entry.TyRef.{TyRef}
use Rattle.cd_tokens.specs.ReadLabel.{text_of, name_of}
use Rattle.cd_tokens.specs.Token.{run}
use Rattle.cd_did.specs.declared.fault.Interface.{Interface}
use Rattle.cd_did.specs.Methods.{Function, method_in}
use Rattle.ct_file.specs.declared.tree.Method.{Method}
use Rattle.ct_file.specs.declared.tree.Method.TheVariants as methods
use Rattle.ct_names.specs.Printed.{is_script_word}
use Rattle.ct_names.specs.Words.{is_candid_word}
use Rattle.ct_scope.specs.Scope.{bound_at, seen_at}
use Rattle.ct_scope.specs.declared.bound.InterfaceId.{InterfaceId}
use Rattle.ct_scope.specs.declared.bound.Kind.{Kind}
use Rattle.ct_scope.specs.declared.bound.Kind.TheVariants.{User, Canister, Value}
use Rattle.ct_sources.specs.Files.{wasm_place, interface_id, interface_of}
use Rattle.ct_check.specs.State.{State}

-- `anonymous`, and `ic`: the first names
abbrev pub anonymous_slot : ℕ
anonymous_slot = 0

abbrev pub management_slot : ℕ
management_slot = 1

-- unknown name 'X'
abbrev pub used : State → List ℕ → Option ℕ
used state name = option_map (λ bound. bound.slot) (seen_at state.scope name)

-- 'X' is no user or canister: it is a value, or `ic`
abbrev pub sending : ℕ → Kind → Option ℕ
sending slot User = Some slot
sending slot (Canister interface) = if slot == management_slot then None else Some slot
sending slot Value = None

abbrev pub sender : State → List ℕ → Option ℕ
sender state name = seen_at state.scope name >>= λ bound. sending bound.slot bound.kind

-- who makes a call: the name after `as`, or `anonymous`
abbrev pub by : State → Option (List ℕ) → Option ℕ
by state None = Some anonymous_slot
by state (Some name) = sender state name

-- 'X' is no canister
abbrev pub called : ℕ → Kind → Option (ℕ × InterfaceId)
called slot (Canister interface) = Some (slot, interface)
called slot User = None
called slot Value = None

abbrev pub canister : State → List ℕ → Option (ℕ × InterfaceId)
canister state name = seen_at state.scope name >>= λ bound. called bound.slot bound.kind

-- 'X' is a word of Candid; name 'X' bound twice
abbrev pub may_bind : State → List ℕ → Bool
may_bind state name = not (is_candid_word name) && is_none (bound_at state.scope name)

-- no principal
abbrev pub principal_said : List ℕ → Option (List ℕ)
principal_said written = text_of written >>= principal_of

-- the principal of a user for whom no text is given
abbrev pub user_principal : List ℕ → List ℕ
user_principal name = take 28 (sha256 name) ++ 2 ∷ []

-- time goes back
abbrev pub may_be_time : State → ℕ → Bool
may_be_time state time = nat_le state.time time

-- "F": could not be read; too large; module refused: X
abbrev pub wasm : State → List ℕ → Option ℕ
wasm state written = text_of written >>= wasm_place state.sources

-- "F": could not be read; bad interface: X
abbrev pub interface : State → List ℕ → Option InterfaceId
interface state written = text_of written >>= interface_id state.sources

abbrev pub method_name : Method → Option (List ℕ)
method_name (methods.Word name) = name_of (run name)
method_name (methods.Text written) = text_of written

-- no such method
abbrev pub function_named : State → InterfaceId → List ℕ → Option Function
function_named state interface name = interface_of state.sources interface >>= λ found. method_in found name

abbrev pub method : State → InterfaceId → Method → Option (List ℕ × Function)
method state interface written = do
  name ← method_name written
  function ← function_named state interface name
  if is_script_word name then Some (name, function) else None

-- the types before `->`
abbrev pub init_types : State → InterfaceId → List TyRef
init_types state interface = types (interface_of state.sources interface)
  where
    types : Option Interface → List TyRef
    types None = []
    types (Some found) = found.init
