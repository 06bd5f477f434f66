-- A call to the management canister that was taken out of a state. No standard has this.
use Rattle.std.specs.Prelude.{◌≡◌, ℕ, ◌+◌, ◌-◌, ◌≤◌, ◌^◌, List, Some, slice_get}
use Rattle.std.specs.List.{AllByRecursion}
use Rattle.ic_behaviour.specs.State.{State}
use Rattle.ic_behaviour.specs.Sound.{Sound}
use Rattle.ic_behaviour.specs.Deliver.{without}
use Rattle.ic_state.specs.declared.canister.Canister.{Canister}
use Rattle.ic_state.specs.declared.world.Parts.{Parts}
use Rattle.ic_state.specs.Seen.{state_of}
use Rattle.ic_state.specs.IsCanister.{IsCanister, cycles_of}
use Rattle.ic_state.specs.IsWorld.{HasCounts}
use Rattle.ic_mgmt_laws.specs.Moves.{message_of}
use Rattle.ic_behaviour.specs.declared.call.IncomingCall.{IncomingCall}

abbrev pub AreCanisters : Parts → Type 0
AreCanisters p = AllByRecursion (λ (e : List ℕ × Canister). IsCanister e.1) p.canisters.entries

-- the numbers that canisters store are those of the state
abbrev pub HaveCounts : State → Parts → Type 0
HaveCounts now p = AllByRecursion (HasCounts now) p.canisters.entries

-- with messages that are elsewhere, and the call among them, the parts are a sound state
pub record Taken (p : Parts) (call : IncomingCall) : Type 0 where
  pub whole : State
  pub place : ℕ
  pub callee : List ℕ
  pub sound : Sound whole
  pub found : slice_get whole.messages place ≡ Some (message_of call callee)
  pub rest : record (state_of p) { messages = (without whole place).messages } ≡ without whole place
  pub canisters : AreCanisters p

-- ---- cycles

-- the cycles of a canister, with those of the call and those burned, are among those created
abbrev pub HasRoom : Parts → (cycles : ℕ) → List ℕ × Canister → Type 0
HasRoom p cycles e = cycles_of e.1 + cycles + p.burned ≤ p.created

-- so sums of them fit
pub record HoldsCycles (p : Parts) (cycles : ℕ) : Type 0 where
  pub canisters : AreCanisters p
  pub room : AllByRecursion (HasRoom p cycles) p.canisters.entries
  pub call : cycles ≤ p.created
  pub created : p.created ≤ 2 ^ 127 - 1
