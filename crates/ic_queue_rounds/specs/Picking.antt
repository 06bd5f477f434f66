-- A message that has left the list is delivered, whether or not its callee is a canister. No standard has this.
use Rattle.std.specs.Prelude.{◌≡◌, ℕ, List, ◌∷◌, length}
use Rattle.ic_behaviour.specs.declared.call.Message.{Message}
use Rattle.ic_state.specs.declared.world.Parts.{Parts}
use Rattle.ic_state.specs.Seen.{state_of}
use Rattle.ic_state.specs.IsWorld.{IsWorld}
use Rattle.ic_behaviour.specs.Steps.{step}
use Rattle.ic_mgmt.specs.Sweeping.{among}
use Rattle.ic_mgmt_laws.specs.Managed.{managed_rules}

pub record DeliversAt (limit price : ℕ) (kept : List Message) (m : Message) (todo : List Message) (p q : Parts) : Type 0 where
  pub keeps : IsWorld (among kept todo q)
  pub state : state_of (among kept todo q) ≡ step (managed_rules limit price) (state_of (among kept (m ∷ todo) p)) (length kept)
