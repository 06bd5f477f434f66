-- The second phase in one pass. No standard has this.
use Rattle.std.specs.Prelude.{◌≡◌, ℕ, ◌+◌, ◌||◌, Bool, is_some, List, ◌∷◌, ◌++◌, length}
use Rattle.std.specs.List.{list_any}
use Rattle.std.specs.Map.{lookup}
use Rattle.ic_behaviour.specs.declared.call.Message.{Message}
use Rattle.ic_behaviour.specs.State.{at, callee_of}
use Rattle.ic_state.specs.declared.canister.Canister.{Canister}
use Rattle.ic_state.specs.declared.world.Parts.{Parts}
use Rattle.ic_state.specs.Seen.{state_of}
use Rattle.ic_state.specs.IsWorld.{IsWorld}
use Rattle.ic_behaviour.specs.Steps.{Rules, step, same_way, along}
use Rattle.ic_behaviour.specs.Round.{sweep, second_phase}
use Rattle.ic_mgmt_laws.specs.Managed.{managed_rules}

-- the parts with the messages that stay, and those to come, before their own, which are the new ones
abbrev pub among : (kept todo : List Message) → Parts → Parts
among kept todo p = record p { messages = kept ++ (todo ++ p.messages) }

-- whether a message is to a canister
abbrev pub is_inside : List (List ℕ × Canister) → Message → Bool
is_inside canisters m = is_some (lookup (at (callee_of m)) canisters)

-- whether a message stays: its callee is a canister, or one of its sender to its callee has stayed
abbrev pub stays : (kept : List Message) → Parts → Message → Bool
stays kept p m = is_inside p.canisters.entries m || list_any (same_way m) kept

-- this message is met next in a world
abbrev pub Meets : (kept : List Message) → Message → Parts → Type 0
Meets kept m p = (todo : List Message) × IsWorld (among kept (m ∷ todo) p)

-- ---- a message is handled

-- the message has left the list, and is delivered, which leaves a world
pub record Delivers (limit : ℕ) (kept : List Message) (m : Message) (todo : List Message) (p q : Parts) : Type 0 where
  pub keeps : IsWorld (among kept todo q)
  pub state : (price : ℕ) → state_of (among kept todo q) ≡ step (managed_rules limit price) (state_of (among kept (m ∷ todo) p)) (length kept)

-- ---- all are met

-- the places of those of the messages to come that are delivered
abbrev pub ahead : Rules → (kept todo : List Message) → Parts → List ℕ
ahead rules kept todo p = sweep rules (length todo) (length kept) (state_of (among kept todo p))

-- this many messages were handled since the phase began at a world, and what is left to do leads to its end
pub record Reaches (limit : ℕ) (start : Parts) (kept todo : List Message) (p : Parts) (count : ℕ) : Type 0 where
  pub keeps : IsWorld (among kept todo p)
  pub state : (price : ℕ)
      → along (managed_rules limit price) (state_of (among kept todo p)) (ahead (managed_rules limit price) kept todo p)
      ≡ along (managed_rules limit price) (state_of start) (second_phase (managed_rules limit price) (state_of start))
  pub handled : (price : ℕ)
      → count + length (ahead (managed_rules limit price) kept todo p)
      ≡ length (second_phase (managed_rules limit price) (state_of start))
