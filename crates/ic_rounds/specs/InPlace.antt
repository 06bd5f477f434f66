-- First messages are handled one after another, each canister in its place. No standard has this.
use Rattle.std.specs.Prelude.{◌≡◌, ℕ, ◌+◌, ◌-◌, ◌≤◌, ◌^◌, false, List, map, Some}
use Rattle.std.specs.List.{fold}
use Rattle.std.specs.Map.{lookup}
use Rattle.ic_behaviour.specs.declared.call.Message.{Message}
use Rattle.ic_behaviour.specs.declared.env.Env.{Env}
use Rattle.ic_behaviour.specs.State.{at}
use Rattle.ic_state.specs.declared.canister.Canister.{Canister}
use Rattle.ic_state.specs.declared.world.Parts.{Parts}
use Rattle.ic_rounds.specs.declared.slot.Slot.{Slot}
use Rattle.ic_rounds.specs.Dealing.{slots_of}
use Rattle.ic_rounds.specs.Slots.{Stored, stored_of, slot_of, ran, after_slot_in_place, IsReady}

-- what first messages come to: each canister handles its own, and what it sends comes last
abbrev pub after_firsts : Env → Parts → List (List ℕ × Message) → Stored
after_firsts env p firsts = fold (after_slot_in_place env) (stored_of p) (map slot_of (slots_of p.canisters.entries firsts))

-- a canister with its first message
abbrev pub slot_at : (key : List ℕ) → Canister → Message → Slot
slot_at key c m = record { key = key; canister = c; message = m }

-- the canister of this key may handle the message
pub record IsNext (env : Env) (p : Parts) (key : List ℕ) (m : Message) : Type 0 where
  pub canister : Canister
  pub there : lookup (at key) p.canisters.entries ≡ Some canister
  pub ready : IsReady (slot_at key canister m)
  pub room : p.burned + (ran env (slot_of (slot_at key canister m))).burned ≤ 2 ^ 127 - 1

-- it did, what it sent comes last, and the other canisters are as before
pub record HasGone (env : Env) (p : Parts) (key : List ℕ) (m : Message) (q : Parts) : Type 0 where
  pub canister : Canister
  pub there : lookup (at key) p.canisters.entries ≡ Some canister
  pub stored : stored_of q ≡ after_slot_in_place env (stored_of p) (slot_of (slot_at key canister m))
  pub others : (k : List ℕ) → at key k ≡ false → lookup (at k) q.canisters.entries ≡ lookup (at k) p.canisters.entries
