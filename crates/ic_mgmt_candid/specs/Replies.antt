-- The replies of the management canister's methods (IC Interface Specification, "The IC management canister"). One without values is `empty_reply` of ic_behaviour.
use Rattle.std.specs.Prelude.{ℕ, ◌+◌, List, [], ◌∷◌, length, map, Option, Some, None, option_map}
use Rattle.cd_codec.specs.Content.{Content, null, nat, principal, plain, blob, none, some, list, record_of, variant, contents_of, parts_of}
use Rattle.cd_codec.specs.Message.{message_spelling}
use Rattle.wm_store.specs.Lists.{Lists}
use Rattle.ic_behaviour.specs.declared.phase.Phase.{Phase}
use Rattle.ic_behaviour.specs.declared.phase.Phase.TheVariants.{Running, Stopping, Stopped}
use Rattle.ic_behaviour.specs.State.{Canister, Code}
use Rattle.ic_mgmt_candid.specs.declared.ids.TheConstants.{CANISTER_ID, CONTROLLERS, CYCLES, MEMORY_SIZE, MODULE_HASH, SETTINGS, STATUS}
use Rattle.ic_mgmt_candid.specs.Types.{canister_type, status_type}

-- record { canister_id }
abbrev pub canister_value : List ℕ → Content
canister_value id = record_of (parts_of ((CANISTER_ID, plain (principal id)) ∷ []))

unfoldable pub canister_reply : List ℕ → List ℕ
canister_reply id = message_spelling canister_type.0 canister_type.1 (canister_value id ∷ [])

-- the place of the case: stopped, stopping, running
abbrev pub phase_case : Phase → ℕ
phase_case Stopped = 0
phase_case (Stopping waiters) = 1
phase_case Running = 2

abbrev pub principal_value : List ℕ → Content
principal_value id = plain (principal id)

-- record { controllers }
abbrev pub settings_value : List (List ℕ) → Content
settings_value controllers = record_of (parts_of ((CONTROLLERS, list (contents_of (map principal_value controllers))) ∷ []))

abbrev pub hash_value : Option (List ℕ) → Content
hash_value None = none
hash_value (Some hash) = some (blob hash)

-- record { status; memory_size; cycles; settings; module_hash }
abbrev pub status_value : Phase → (controllers : List (List ℕ)) → (hash : Option (List ℕ)) → (memory cycles : ℕ) → Content
status_value phase controllers hash memory cycles = record_of (parts_of (
    (STATUS, variant (phase_case phase) (plain null))
    ∷ (MEMORY_SIZE, plain (nat memory))
    ∷ (CYCLES, plain (nat cycles))
    ∷ (SETTINGS, settings_value controllers)
    ∷ (MODULE_HASH, hash_value hash)
    ∷ []))

unfoldable pub status_told : Phase → (controllers : List (List ℕ)) → (hash : Option (List ℕ)) → (memory cycles : ℕ) → List ℕ
status_told phase controllers hash memory cycles =
    message_spelling status_type.0 status_type.1 (status_value phase controllers hash memory cycles ∷ [])

-- the bytes of memory and of stable memory
abbrev pub memory_size : Lists → ℕ
memory_size store = length store.memory + length store.stable

-- what canister_status replies of a canister
abbrev pub status_reply : Canister → List ℕ
status_reply c = status_told c.phase c.controllers (option_map (λ (code : Code). code.hash) c.code) (memory_size c.store) c.balance
