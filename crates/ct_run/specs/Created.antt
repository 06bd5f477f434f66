-- A canister that is made: a call makes it, and a second one, in the state after the first, gives it a module.
use Rattle.std.specs.Prelude.{◌≡◌, ℕ, List, ◌++◌, Option, Some, None, Result, IfOk}
use Rattle.ic_behaviour.specs.State.{State}
use Rattle.ic_behaviour.specs.Runs.{Act}
use Rattle.ic_behaviour.specs.declared.charge.Charge.{Charge}
use Rattle.ic_behaviour.specs.declared.install.Mode.TheVariants.{Install}
use Rattle.ic_mgmt_requests.specs.Requests.{canister_named}
use Rattle.ct_outcomes.specs.declared.came.Came.{Came}
use Rattle.ct_outcomes.specs.declared.came.Came.TheVariants.{Replied, Rejected, NotMade}
use Rattle.ct_asked.specs.declared.asked.Asked.TheVariants.{Call}
use Rattle.ct_asked.specs.Asked.{unless_too_long}
use Rattle.ct_asked.specs.Requests.{Code, creating, installing}
use Rattle.ct_run.specs.Called.{Doing, doing, after_acts}

-- what happens, what comes of it, and the canister, if one was made
pub record Making : Type 0 where
  pub acts : List Act
  pub came : Came
  pub canister : Option (List ℕ)

-- the canister that the first call made
abbrev pub canister_of : Came → Option (List ℕ)
canister_of (Replied reply) = canister_named reply
canister_of came = None

-- what is told of it, where it made none
abbrev pub not_made : Came → Came
not_made (Rejected code text) = NotMade code text
not_made came = came

-- the second call comes after the first, and its answer is the outcome
abbrev pub made_and_installed : Doing → Doing → List ℕ → Making
made_and_installed first second canister = record { acts = first.acts ++ second.acts; came = second.came; canister = Some canister }

-- the second call follows the first, if that made a canister
abbrev pub then_installed : Charge → State → (maker : List ℕ × Code) → Doing → Option (List ℕ) → Making
then_installed charge s maker first None = record { acts = first.acts; came = not_made first.came; canister = None }
then_installed charge s maker first (Some canister) =
    made_and_installed first (doing charge (after_acts charge s first.acts) (unless_too_long Call (installing maker.0 canister Install maker.1))) canister

abbrev pub after_first : Charge → State → (maker : List ℕ × Code) → Doing → Making
after_first charge s maker first = then_installed charge s maker first (canister_of first.came)

-- what happens where a canister is to be made
unfoldable pub making : Charge → State → (maker : List ℕ × Code) → (cycles : Option ℕ) → Making
making charge s maker cycles = after_first charge s maker (doing charge s (unless_too_long Call (creating maker.0 cycles)))

-- the state after what was done, the canister, and what came of it, unless memory ran out
abbrev pub Makes : {E : Type 0} → Charge → State → Making → Result (State × Option (List ℕ) × Came) E → Type 0
Makes charge s m result = IfOk result (λ made. (made.0 ≡ after_acts charge s m.acts) × (made.1 ≡ m.canister) × (made.2 ≡ m.came))
