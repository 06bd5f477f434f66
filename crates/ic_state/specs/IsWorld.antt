-- What a world keeps.
use Rattle.std.specs.Prelude.{◌≡◌, ℕ, List}
use Rattle.std.specs.List.{AllByRecursion}
use Rattle.ic_behaviour.specs.State.{State}
use Rattle.ic_behaviour.specs.Counted.{counted, dropped}
use Rattle.ic_behaviour.specs.Sound.{Sound}
use Rattle.ic_state.specs.declared.canister.Canister.{Canister}
use Rattle.ic_state.specs.declared.world.Parts.{Parts}
use Rattle.ic_state.specs.Seen.{seen, state_of}
use Rattle.ic_state.specs.IsCanister.{IsCanister}

-- the numbers that a canister stores are those of the state
abbrev pub HasCounts : State → List ℕ × Canister → Type 0
HasCounts s e = counted s e.0 (dropped (seen e.1)) ≡ seen e.1

pub record IsWorld (p : Parts) : Type 0 where
  pub sound : Sound (state_of p)
  pub counts : AllByRecursion (HasCounts (state_of p)) p.canisters.entries
  pub canisters : AllByRecursion (λ (e : List ℕ × Canister). IsCanister e.1) p.canisters.entries
