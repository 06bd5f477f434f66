-- The calls to the management canister by which a canister is made and gets a module (IC Interface Specification, "IC method provisional_create_canister_with_cycles" and "IC method install_code"). A message has the entries that its argument needs, numbered as they are met: an entry, and then its parts from the left.
use Rattle.std.specs.Prelude.{ℕ, true, false, List, [], ◌∷◌, Option, Some, None}
use Rattle.ic_base.specs.Reader.{◌>>=◌}
use Rattle.cd_types.specs.declared.primitive.Primitive.TheVariants.{Null, Bool, Nat, Nat8, Principal}
use Rattle.cd_types.specs.declared.entry.TyRef.TheVariants.{Prim, Index}
use Rattle.cd_types.specs.declared.entry.Entry.TheVariants.{Opt, Seq, Rec, Var}
use Rattle.cd_codec.specs.Content.{Content, null, bool, nat, principal, plain, blob, none, some, record_of, variant, parts_of}
use Rattle.cd_codec.specs.Message.{message_spelling}
use Rattle.ic_behaviour.specs.declared.install.Mode.{Mode}
use Rattle.ic_behaviour.specs.declared.install.Mode.TheVariants.{Install, Reinstall, Upgrade}
use Rattle.ic_mgmt_requests.specs.declared.ids.TheConstants.{ARG, REINSTALL, WASM_MODULE, CONTROLLERS, MODE, CANISTER_ID, SKIP_PRE_UPGRADE, UPGRADE, SETTINGS, INSTALL, AMOUNT}
use Rattle.ic_mgmt_candid.specs.Types.{Types, canister_type}
use Rattle.ic_mgmt_candid.specs.Demands.{argument, canister_id}

-- ---- types

-- record { settings : opt record { controllers : opt vec principal }; amount : opt nat }
unfoldable pub creation_type : Types
creation_type = (
  Rec ((SETTINGS, Index 1) ∷ (AMOUNT, Index 5) ∷ [])
      ∷ Opt (Index 2)
      ∷ Rec ((CONTROLLERS, Index 3) ∷ [])
      ∷ Opt (Index 4)
      ∷ Seq (Prim Principal)
      ∷ Opt (Prim Nat)
      ∷ [],
  Index 0 ∷ [],
)

-- record { arg : vec nat8; wasm_module : vec nat8;
-- mode : variant { reinstall; upgrade : opt record { skip_pre_upgrade : opt bool }; install }; canister_id : principal }
unfoldable pub installation_type : Types
installation_type = (
  Rec ((ARG, Index 1) ∷ (WASM_MODULE, Index 2) ∷ (MODE, Index 3) ∷ (CANISTER_ID, Prim Principal) ∷ [])
      ∷ Seq (Prim Nat8)
      ∷ Seq (Prim Nat8)
      ∷ Var ((REINSTALL, Prim Null) ∷ (UPGRADE, Index 4) ∷ (INSTALL, Prim Null) ∷ [])
      ∷ Opt (Index 5)
      ∷ Rec ((SKIP_PRE_UPGRADE, Index 6) ∷ [])
      ∷ Opt (Prim Bool)
      ∷ [],
  Index 0 ∷ [],
)

-- ---- values

abbrev pub amount_value : Option ℕ → Content
amount_value None = none
amount_value (Some cycles) = some (plain (nat cycles))

-- without settings
abbrev pub creation_value : Option ℕ → Content
creation_value cycles = record_of (parts_of ((SETTINGS, none) ∷ (AMOUNT, amount_value cycles) ∷ []))

-- record { skip_pre_upgrade = opt true }
abbrev pub skipping : Content
skipping = record_of (parts_of ((SKIP_PRE_UPGRADE, some (plain (bool true))) ∷ []))

-- a case by its place
abbrev pub mode_value : Mode → Content
mode_value Reinstall = variant 0 (plain null)
mode_value (Upgrade false) = variant 1 none
mode_value (Upgrade true) = variant 1 (some skipping)
mode_value Install = variant 2 (plain null)

abbrev pub installation_value : Mode → (canister wasm arg : List ℕ) → Content
installation_value mode canister wasm arg = record_of (parts_of (
    (ARG, blob arg) ∷ (WASM_MODULE, blob wasm) ∷ (MODE, mode_value mode) ∷ (CANISTER_ID, plain (principal canister)) ∷ []))

-- ---- arguments

-- of a canister with these cycles, or, where none are named, with 100,000,000,000,000
unfoldable pub creation_argument : Option ℕ → List ℕ
creation_argument cycles = message_spelling creation_type.0 creation_type.1 (creation_value cycles ∷ [])

unfoldable pub installation_argument : Mode → (canister wasm arg : List ℕ) → List ℕ
installation_argument mode canister wasm arg =
    message_spelling installation_type.0 installation_type.1 (installation_value mode canister wasm arg ∷ [])

-- ---- replies

-- the canister that a reply names, if it is record { canister_id }
unfoldable pub canister_named : List ℕ → Option (List ℕ)
canister_named reply = argument canister_type reply >>= canister_id
