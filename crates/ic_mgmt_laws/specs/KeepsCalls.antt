-- What the management canister keeps. No standard has this.
use Rattle.std.specs.Prelude.{◌≡◌, ℕ, List}
use Rattle.ic_behaviour.specs.declared.call.CallId.{CallId}
use Rattle.ic_behaviour.specs.State.{State}
use Rattle.ic_behaviour.specs.Items.{places, outstanding, Given}
use Rattle.ic_behaviour.specs.Sound.{Sound}

-- from s to t no call is lost, ends or is made, and no context awaits more calls or fewer
pub record KeepsCalls (s t : State) : Type 0 where
  pub sound : Sound t
  pub given : (id : CallId) → Given s id → Given t id
  pub placed : (id : CallId) → Given s id → places t id ≡ places s id
  pub counts : (key : List ℕ) (id : CallId) → outstanding t key id ≡ outstanding s key id
