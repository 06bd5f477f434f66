-- The methods of the management canister (IC Interface Specification, "The IC management canister").
use Rattle.std.specs.Prelude.{ℕ, Bool, true, false, List, codes, Option, Some, None, if◌then◌else◌}
use Rattle.std.specs.Str.{bytes_eq}
use Rattle.ic_mgmt_candid.specs.declared.method.Method.{Method}
use Rattle.ic_mgmt_candid.specs.declared.method.Method.TheVariants as M

-- the method of this name
abbrev pub method_of : List ℕ → Option Method
method_of name =
    if bytes_eq name (codes "create_canister") then Some M.CreateCanister else
    if bytes_eq name (codes "provisional_create_canister_with_cycles") then Some M.ProvisionalCreateCanisterWithCycles else
    if bytes_eq name (codes "provisional_top_up_canister") then Some M.ProvisionalTopUpCanister else
    if bytes_eq name (codes "deposit_cycles") then Some M.DepositCycles else
    if bytes_eq name (codes "update_settings") then Some M.UpdateSettings else
    if bytes_eq name (codes "install_code") then Some M.InstallCode else
    if bytes_eq name (codes "uninstall_code") then Some M.UninstallCode else
    if bytes_eq name (codes "start_canister") then Some M.StartCanister else
    if bytes_eq name (codes "stop_canister") then Some M.StopCanister else
    if bytes_eq name (codes "delete_canister") then Some M.DeleteCanister else
    if bytes_eq name (codes "canister_status") then Some M.CanisterStatus else None

-- whether calls of users are refused
abbrev pub is_only_for_canisters : Method → Bool
is_only_for_canisters M.CreateCanister = true
is_only_for_canisters M.DepositCycles = true
is_only_for_canisters _ = false
