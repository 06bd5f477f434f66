-- What is sent once a method has changed the canisters. No standard has this.
use Rattle.std.specs.Prelude.{◌≡◌, ℕ, Option, Some, None, Result, Ok, Err}
use Rattle.ic_behaviour.specs.declared.call.Response.{Response}
use Rattle.ic_behaviour.specs.State.{State}
use Rattle.ic_mgmt_candid.specs.declared.denial.Denial.{Denial}
use Rattle.ic_mgmt_candid.specs.declared.denial.Unmet.{Unmet}
use Rattle.ic_mgmt_candid.specs.declared.denial.Unmet.TheVariants.{Denied, NoMemory}
use Rattle.ic_state.specs.declared.world.Parts.{Parts}
use Rattle.ic_state.specs.Seen.{state_of}
use Rattle.ic_mgmt_laws.specs.Moves.{answered, all_answered}
use Rattle.ic_behaviour.specs.declared.call.IncomingCall.{IncomingCall}
use Rattle.ic_mgmt.specs.declared.ending.Ending.{Ending}
use Rattle.ic_mgmt.specs.Taken.{AreCanisters, HaveCounts}

-- the call is answered, or waits
abbrev pub reply_by : IncomingCall → Option (Response × ℕ) → State → State
reply_by call None s = s
reply_by call (Some (response, refund)) s = answered call response refund s

-- and then others are
abbrev pub ended_by : IncomingCall → Ending → State → State
ended_by call e s = all_answered e.sender e.answers (reply_by call e.reply s)

-- ---- what code returns

-- unless memory ran out
abbrev pub IfMemory : {A : Type 0} → Result A Unmet → Type 0 → Type 0
IfMemory (Ok x) P = P
IfMemory (Err (Denied denial)) P = P
IfMemory (Err NoMemory) P = Unit {0}

-- the state after it, once all is sent, is what the row gives; where it is refused, nothing changed
abbrev pub Does : Result Ending Unmet → IncomingCall → (before after : State) → Result State Denial → Type 0
Does (Ok e) call before after row = row ≡ Ok (ended_by call e after)
Does (Err (Denied denial)) call before after row = (row ≡ Err denial) × (after ≡ before)
Does (Err NoMemory) call before after row = Unit {0}

-- with the numbers that canisters store
abbrev pub DoesRow : Result Ending Unmet → IncomingCall → (before after : Parts) → (State → Result State Denial) → Type 0
DoesRow result call before after row =
    (now : State) → HaveCounts now before → now.time ≡ before.time → Does result call (state_of before) (state_of after) (row now)

-- canisters keep what they keep by themselves, and the numbers of their calls
pub record Keeps (before after : Parts) : Type 0 where
  pub canisters : AreCanisters after
  pub counts : (now : State) → HaveCounts now before → HaveCounts now after
