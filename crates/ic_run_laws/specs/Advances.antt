-- What the delivery of a message keeps, and what it ends. No standard has this.
use Rattle.std.specs.Prelude.{◌≡◌, ℕ, ◌+◌, true, false, List, slice_get, Some}
use Rattle.ic_behaviour.specs.declared.call.CallId.{CallId}
use Rattle.ic_behaviour.specs.declared.call.Origin.{Origin}
use Rattle.ic_behaviour.specs.declared.call.Message.{Message}
use Rattle.ic_behaviour.specs.declared.call.Message.TheVariants.{Call, Answer}
use Rattle.ic_behaviour.specs.Totals.{one}
use Rattle.ic_behaviour.specs.State.{at, same_id, id_of, State}
use Rattle.ic_behaviour.specs.Items.{places, outstanding, Given}
use Rattle.ic_behaviour.specs.Sound.{Sound}
use Rattle.ic_behaviour.specs.Deliver.{Outside, is_management, without}

-- 1 for the call whose answer this is: its delivery ends the call's place
abbrev pub ends : Message → CallId → ℕ
ends (Call from sender callee method arg cycles) id = 0
ends (Answer from sender response refund) id = one (same_id id (id_of from))

-- from s to t by a message to the canister `key`, which ends the places of the calls that `less` counts
pub record Advances (s t : State) (key : List ℕ) (less : CallId → ℕ) : Type 0 where
  pub sound : Sound t
  pub given : (id : CallId) → Given s id → Given t id
  pub placed : (id : CallId) → Given s id → places t id + less id ≡ places s id
  -- other canisters have as many calls without answer as before
  pub others : (k : List ℕ) (id : CallId) → at key k ≡ false → outstanding t k id ≡ outstanding s k id

-- what is asked of what delivers a call to the management canister
abbrev pub OutsideKeeps : Outside → Type 0
OutsideKeeps outside =
    (limit : ℕ) (s : State) (place : ℕ) (from : Origin) (sender callee method arg : List ℕ) (cycles : ℕ)
    → Sound s → slice_get s.messages place ≡ Some (Call from sender callee method arg cycles) → is_management callee ≡ true
    → Advances s (outside limit (without s place) (Call from sender callee method arg cycles)) callee (λ id. 0)
