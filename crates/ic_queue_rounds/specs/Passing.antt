-- A second phase that walks from one message to no canister to the next. No standard has this.
use Rattle.std.specs.Prelude.{◌≡◌, ℕ, false, ◌∷◌}
use Rattle.std.specs.Map.{keys_of}
use Rattle.ic_behaviour.specs.declared.call.Message.{Message}
use Rattle.ic_state.specs.declared.world.Parts.{Parts}
use Rattle.ic_mgmt.specs.Sweeping.{stays, Reaches}
use Rattle.ic_queues.specs.Queued.{Walked}

-- a second phase that began at a world has come to where the walk is, and the canisters are those of the walk
pub record Passing (limit : ℕ) (start : Parts) (w : Walked) (p : Parts) : Type 0 where
  pub count : ℕ
  pub reaches : Reaches limit start w.kept w.todo p count
  pub canisters : keys_of p.canisters.entries ≡ w.canisters

pub record IsPassing (limit : ℕ) (w : Walked) (p : Parts) : Type 0 where
  pub start : Parts
  pub passing : Passing limit start w p

-- the walk has taken this message, which goes
pub record Facing (limit : ℕ) (start : Parts) (w : Walked) (m : Message) (p : Parts) : Type 0 where
  pub count : ℕ
  pub reaches : Reaches limit start w.kept (m ∷ w.todo) p count
  pub canisters : keys_of p.canisters.entries ≡ w.canisters
  pub goes : stays w.kept p m ≡ false

pub record IsFacing (limit : ℕ) (w : Walked) (m : Message) (p : Parts) : Type 0 where
  pub start : Parts
  pub facing : Facing limit start w m p
