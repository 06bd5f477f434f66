-- A canister is given a message. No standard has this.
use Rattle.std.specs.Prelude.{ℕ, ◌+◌, ◌-◌, ◌≤◌, ◌^◌}
use Rattle.ic_behaviour.specs.declared.call.Message.{Message}
use Rattle.ic_behaviour.specs.declared.env.Env.{Env}
use Rattle.ic_behaviour.specs.Items.{item_of, cycles_in}
use Rattle.ic_behaviour.specs.Entry.{enters_by}
use Rattle.ic_behaviour.specs.Local.{local}
use Rattle.ic_api.specs.System.{system_api}
use Rattle.ic_state.specs.declared.canister.Canister.{Canister}
use Rattle.ic_state.specs.Seen.{seen}
use Rattle.ic_state.specs.IsCanister.{IsCanister, cycles_of}
use Rattle.ic_calls.specs.Received.{IsExpected}

-- the canister may handle the message
pub record CanHandle (c : Canister) (m : Message) : Type 0 where
  pub keeps : IsCanister c
  pub expected : IsExpected (seen c) m
  pub cycles : cycles_of c + cycles_in (item_of m) ≤ 2 ^ 127 - 1

-- and what it pays for it has room beside what was burned
pub record CanTake (env : Env) (burned : ℕ) (c : Canister) (m : Message) : Type 0 where
  pub handles : CanHandle c m
  pub room : burned + (local (enters_by system_api) env (seen c) m).burned ≤ 2 ^ 127 - 1
