-- A message is delivered, by whatever carries out calls to the management canister (IC Interface Specification, "Message execution" and "The IC management canister").
use Rattle.std.specs.Prelude.{◌≡◌, ℕ, Bool, true, false, Option, Some, None, slice_get}
use Rattle.ic_behaviour.specs.declared.call.Message.{Message}
use Rattle.ic_behaviour.specs.declared.call.Message.TheVariants.{Call, Answer}
use Rattle.ic_behaviour.specs.State.{State}
use Rattle.ic_behaviour.specs.Deliver.{Outside, is_management}
use Rattle.ic_behaviour.specs.Steps.{step}
use Rattle.ic_run_laws.specs.System.{system_rules}

-- ---- calls to the management canister

-- what carries out such a call: the state with the call, its place, the most instructions of an installation, and the
-- state after it
abbrev pub Manages : Type 1
Manages = State → (place limit : ℕ) → State → Type 0

abbrev pub is_to_management : Message → Bool
is_to_management (Call from sender callee method arg cycles) = is_management callee
is_to_management (Answer from sender response refund) = false

abbrev pub is_managed_message : Option Message → Bool
is_managed_message None = false
is_managed_message (Some m) = is_to_management m

-- whether a call to the management canister is at the place
abbrev pub is_managed : State → (place : ℕ) → Bool
is_managed s place = is_managed_message (slice_get s.messages place)

-- ---- any message

-- A call to the management canister is carried out. Every other message is delivered as it ever is, for which nothing
-- hangs on who carries these out.
pub record Delivers (manages : Manages) (limit price : ℕ) (s : State) (place : ℕ) (t : State) : Type 0 where
  pub managed : is_managed s place ≡ true → manages s place limit t
  pub other : is_managed s place ≡ false → (outside : Outside) → t ≡ step (system_rules outside limit price) s place

-- it carries them out as these rules have it, whatever the price
abbrev pub IsStep : Outside → Manages → Type 0
IsStep outside manages =
    (limit price : ℕ) (s : State) (place : ℕ) (t : State) → is_managed s place ≡ true → manages s place limit t
    → t ≡ step (system_rules outside limit price) s place
