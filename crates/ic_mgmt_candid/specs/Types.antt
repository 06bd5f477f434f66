-- The types of the arguments and replies of the management canister's methods (IC Interface Specification, "The IC management canister"), without the fields that this profile leaves out.
use Rattle.std.specs.Prelude.{List, [], ◌∷◌, ◌++◌}
use Rattle.cd_types.specs.declared.primitive.Primitive.TheVariants.{Null, Bool, Nat, Nat8, Principal}
use Rattle.cd_types.specs.declared.entry.TyRef.{TyRef}
use Rattle.cd_types.specs.declared.entry.TyRef.TheVariants.{Prim, Index}
use Rattle.cd_types.specs.declared.entry.Entry.{Entry}
use Rattle.cd_types.specs.declared.entry.Entry.TheVariants.{Opt, Seq, Rec, Var}
use Rattle.ic_mgmt_candid.specs.declared.ids.TheConstants.{ARG, STATUS, REINSTALL, WASM_MODULE, CONTROLLERS, MEMORY_SIZE, STOPPED, MODE, CANISTER_ID, SKIP_PRE_UPGRADE, UPGRADE, CYCLES, SETTINGS, INSTALL, MODULE_HASH, STOPPING, AMOUNT, RUNNING}

-- a type table, and the types of the arguments
abbrev pub Types : Type 0
Types = List Entry × List TyRef

-- record { canister_id : principal }
unfoldable pub canister_type : Types
canister_type = (Rec ((CANISTER_ID, Prim Principal) ∷ []) ∷ [], Index 0 ∷ [])

-- the last entry is record { controllers : opt vec principal }
abbrev pub settings_entries : List Entry
settings_entries = Seq (Prim Principal) ∷ Opt (Index 0) ∷ Rec ((CONTROLLERS, Index 1) ∷ []) ∷ []

-- record { settings : opt SETTINGS }
unfoldable pub create_type : Types
create_type = (settings_entries ++ Opt (Index 2) ∷ Rec ((SETTINGS, Index 3) ∷ []) ∷ [], Index 4 ∷ [])

-- record { amount : opt nat; settings : opt SETTINGS }
unfoldable pub provisional_create_type : Types
provisional_create_type = (
  settings_entries ++ Opt (Index 2) ∷ Opt (Prim Nat) ∷ Rec ((SETTINGS, Index 3) ∷ (AMOUNT, Index 4) ∷ []) ∷ [],
  Index 5 ∷ [],
)

-- record { canister_id : principal; amount : nat }
unfoldable pub top_up_type : Types
top_up_type = (Rec ((CANISTER_ID, Prim Principal) ∷ (AMOUNT, Prim Nat) ∷ []) ∷ [], Index 0 ∷ [])

-- record { canister_id : principal; settings : SETTINGS }
unfoldable pub update_type : Types
update_type = (settings_entries ++ Rec ((CANISTER_ID, Prim Principal) ∷ (SETTINGS, Index 2) ∷ []) ∷ [], Index 3 ∷ [])

-- record { mode : variant { install; reinstall; upgrade : opt record { skip_pre_upgrade : opt bool } };
-- canister_id : principal; wasm_module : vec nat8; arg : vec nat8 }
unfoldable pub install_type : Types
install_type = (
  Opt (Prim Bool)
      ∷ Rec ((SKIP_PRE_UPGRADE, Index 0) ∷ [])
      ∷ Opt (Index 1)
      ∷ Var ((REINSTALL, Prim Null) ∷ (UPGRADE, Index 2) ∷ (INSTALL, Prim Null) ∷ [])
      ∷ Seq (Prim Nat8)
      ∷ Rec ((ARG, Index 4) ∷ (WASM_MODULE, Index 4) ∷ (MODE, Index 3) ∷ (CANISTER_ID, Prim Principal) ∷ [])
      ∷ [],
  Index 5 ∷ [],
)

-- record { status : variant { running; stopping; stopped }; settings : record { controllers : vec principal };
-- module_hash : opt vec nat8; memory_size : nat; cycles : nat }
unfoldable pub status_type : Types
status_type = (
  Seq (Prim Principal)
      ∷ Rec ((CONTROLLERS, Index 0) ∷ [])
      ∷ Seq (Prim Nat8)
      ∷ Opt (Index 2)
      ∷ Var ((STOPPED, Prim Null) ∷ (STOPPING, Prim Null) ∷ (RUNNING, Prim Null) ∷ [])
      ∷ Rec ((STATUS, Index 4) ∷ (MEMORY_SIZE, Prim Nat) ∷ (CYCLES, Prim Nat) ∷ (SETTINGS, Index 1) ∷ (MODULE_HASH, Index 3) ∷ [])
      ∷ [],
  Index 5 ∷ [],
)
