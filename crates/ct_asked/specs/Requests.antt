-- The calls to the management canister by which a test makes canisters and gives them modules.
use Rattle.std.specs.Prelude.{ℕ, List, [], Option, codes}
use Rattle.ic_behaviour.specs.declared.install.Mode.{Mode}
use Rattle.ic_mgmt_requests.specs.Requests.{creation_argument, installation_argument}
use Rattle.ic_script.specs.declared.Ask.{Ask}

-- a module, and the argument that it is installed with
pub record Code : Type 0 where
  pub wasm : List ℕ
  pub arg : List ℕ

-- a canister with these cycles, or, where none are named, with the amount that the management canister gives
abbrev pub creating : (sender : List ℕ) → Option ℕ → Ask
creating sender cycles = record {
  sender = sender;
  callee = [];
  method = codes "provisional_create_canister_with_cycles";
  arg = creation_argument cycles;
}

abbrev pub installing : (sender canister : List ℕ) → Mode → Code → Ask
installing sender canister mode code = record {
  sender = sender;
  callee = [];
  method = codes "install_code";
  arg = installation_argument mode canister code.wasm code.arg;
}
