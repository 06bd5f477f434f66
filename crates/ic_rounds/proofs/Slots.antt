-- Slots of a state.
use Rattle.std.proofs.Common.{◌≡◌, ℕ, List, [], ◌∷◌, cond, Some}
use Rattle.std.specs.List.{fold, find}
use Rattle.std.specs.Map.{lookup}
use Rattle.ic_behaviour.specs.declared.call.Message.{Message}
use Rattle.ic_behaviour.specs.State.{at, callee_of, State}
use Rattle.ic_behaviour.specs.Counted.{counted, dropped}
use Rattle.ic_rounds.specs.Slots.{Slot}

-- the list without the first message to a canister
abbrev pub without_first : List ℕ → List Message → List Message
without_first key [] = []
without_first key (m ∷ ms) = cond (at key (callee_of m)) ms (m ∷ without_first key ms)

-- the list without the first message to each of these canisters
abbrev pub left : List Slot → List Message → List Message
left slots ms = fold (λ l slot. without_first slot.key l) ms slots

-- a slot has its canister with the numbers of the state, and the first message to it
pub record IsSlot (s : State) (slot : Slot) : Type 0 where
  pub there : lookup (at slot.key) s.canisters ≡ Some (dropped slot.canister)
  pub counts : counted s slot.key (dropped slot.canister) ≡ slot.canister
  pub message : find (λ m. at slot.key (callee_of m)) s.messages ≡ Some slot.message
