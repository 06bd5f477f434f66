-- What the argument of a management call says (IC Interface Specification, "The IC management canister"): a type table, what the bytes decode to at it, and a pick from the values.
use Rattle.std.specs.Prelude.{ℕ, Bool, false, List, [], ◌∷◌, Option, Some, None, option_map, ◌==◌, if◌then◌else◌}
use Rattle.std.specs.Result.{result_ok}
use Rattle.ic_base.specs.Reader.{◌>>=◌}
use Rattle.cd_codec.specs.Content.{Content}
use Rattle.cd_coerce.specs.Decoded.{decoded}
use Rattle.ic_behaviour.specs.declared.install.Mode.{Mode}
use Rattle.ic_behaviour.specs.declared.install.Mode.TheVariants as mode
use Rattle.ic_mgmt_candid.specs.declared.method.Method.{Method}
use Rattle.ic_mgmt_candid.specs.declared.method.Method.TheVariants as method
use Rattle.ic_mgmt_candid.specs.declared.demand.InstallCode.{InstallCode}
use Rattle.ic_mgmt_candid.specs.declared.demand.Demand.{Demand}
use Rattle.ic_mgmt_candid.specs.declared.demand.Demand.TheVariants as demand
use Rattle.ic_mgmt_candid.specs.Types.{Types, canister_type, create_type, provisional_create_type, top_up_type, update_type, install_type}
use Rattle.ic_mgmt_candid.specs.Picks.{one_field, only_field, only_two, only_four, as_opt, as_list, as_case, as_principal, as_nat, as_bool, as_bytes, as_principals}

-- ---- parts

-- the canister of record { canister_id }
abbrev pub canister_id : List Content → Option (List ℕ)
canister_id values = do
  id ← only_field values
  as_principal id

-- an amount that may be left out
abbrev pub amount_in : Option Content → Option (Option ℕ)
amount_in None = Some None
amount_in (Some n) = option_map Some (as_nat n)

abbrev pub optional_amount : Content → Option (Option ℕ)
optional_amount v = as_opt v >>= amount_in

-- the controllers of record { controllers }; none where they are left out
abbrev pub principals : Content → Option (List (List ℕ))
principals v = as_list v >>= as_principals

abbrev pub controllers_in : Option Content → Option (Option (List (List ℕ)))
controllers_in None = Some None
controllers_in (Some ids) = option_map Some (principals ids)

abbrev pub controllers_of : Content → Option (Option (List (List ℕ)))
controllers_of settings = do
  controllers ← one_field settings
  optional ← as_opt controllers
  controllers_in optional

-- settings that may be left out
abbrev pub settings_in : Option Content → Option (Option (List (List ℕ)))
settings_in None = Some None
settings_in (Some settings) = controllers_of settings

abbrev pub optional_settings : Content → Option (Option (List (List ℕ)))
optional_settings v = as_opt v >>= settings_in

-- whether an optional flag is set; no where it is left out
abbrev pub flag_in : Option Content → Option Bool
flag_in None = Some false
flag_in (Some b) = as_bool b

abbrev pub flag : Content → Option Bool
flag v = as_opt v >>= flag_in

-- whether the options of an upgrade skip canister_pre_upgrade; no where they are left out
abbrev pub skips_in : Option Content → Option Bool
skips_in None = Some false
skips_in (Some options) = one_field options >>= flag

abbrev pub skips : Content → Option Bool
skips v = as_opt v >>= skips_in

-- the mode, by the place of its case: reinstall, upgrade, install
abbrev pub mode_at : ℕ → Content → Option Mode
mode_at place v =
    if place == 0 then Some mode.Reinstall else
    if place == 1 then option_map mode.Upgrade (skips v) else
    if place == 2 then Some mode.Install else None

abbrev pub mode_in : Content → Option Mode
mode_in v = as_case v >>= λ case. mode_at case.0 case.1

-- ---- arguments

abbrev pub create : List Content → Option Demand
create values = do
  settings ← only_field values
  option_map demand.CreateCanister (optional_settings settings)

abbrev pub with_cycles : Option (Option ℕ) → Option (Option (List (List ℕ))) → Option Demand
with_cycles amount controllers = do
  amount ← amount
  controllers ← controllers
  Some (demand.ProvisionalCreateCanisterWithCycles amount controllers)

abbrev pub provisional_create : List Content → Option Demand
provisional_create values = do
  fields ← only_two values
  with_cycles (optional_amount fields.1) (optional_settings fields.0)

abbrev pub top_up : List Content → Option Demand
top_up values = do
  fields ← only_two values
  id ← as_principal fields.0
  amount ← as_nat fields.1
  Some (demand.ProvisionalTopUpCanister id amount)

abbrev pub with_settings : Option (List ℕ) → Option (Option (List (List ℕ))) → Option Demand
with_settings id controllers = do
  id ← id
  controllers ← controllers
  Some (demand.UpdateSettings id controllers)

abbrev pub update : List Content → Option Demand
update values = do
  fields ← only_two values
  with_settings (as_principal fields.0) (controllers_of fields.1)

abbrev pub from_fields : Option (List ℕ) → Option (List ℕ) → Option Mode → Option (List ℕ) → Option InstallCode
from_fields arg wasm_module mode canister_id = do
  arg ← arg
  wasm_module ← wasm_module
  mode ← mode
  canister_id ← canister_id
  Some (record { mode = mode; canister_id = canister_id; wasm_module = wasm_module; arg = arg })

abbrev pub install : List Content → Option InstallCode
install values = do
  fields ← only_four values
  from_fields (as_bytes fields.0) (as_bytes fields.1) (mode_in fields.2) (as_principal fields.3)

-- ---- methods

abbrev pub type_of : Method → Types
type_of method.CreateCanister = create_type
type_of method.ProvisionalCreateCanisterWithCycles = provisional_create_type
type_of method.ProvisionalTopUpCanister = top_up_type
type_of method.UpdateSettings = update_type
type_of method.InstallCode = install_type
type_of _ = canister_type

abbrev pub picked : Method → List Content → Option Demand
picked method.CreateCanister values = create values
picked method.ProvisionalCreateCanisterWithCycles values = provisional_create values
picked method.ProvisionalTopUpCanister values = top_up values
picked method.DepositCycles values = option_map demand.DepositCycles (canister_id values)
picked method.UpdateSettings values = update values
picked method.InstallCode values = option_map demand.InstallCode (install values)
picked method.UninstallCode values = option_map demand.UninstallCode (canister_id values)
picked method.StartCanister values = option_map demand.StartCanister (canister_id values)
picked method.StopCanister values = option_map demand.StopCanister (canister_id values)
picked method.DeleteCanister values = option_map demand.DeleteCanister (canister_id values)
picked method.CanisterStatus values = option_map demand.CanisterStatus (canister_id values)

-- what is read at the expected types, where the argument decodes
abbrev pub argument : Types → List ℕ → Option (List Content)
argument expected bytes = result_ok (decoded expected bytes)

-- what a method with this argument demands, where the argument decodes
unfoldable pub demand_of : Method → List ℕ → Option Demand
demand_of m bytes = argument (type_of m) bytes >>= picked m
