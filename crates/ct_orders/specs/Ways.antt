-- Ways through a test: from the empty state, statement after statement and interleave after interleave, each in any order.
use Rattle.std.specs.Prelude.{◌++◌, ℕ, List, [], ◌∷◌, Option}
use Rattle.ic_behaviour.specs.State.{State}
use Rattle.ic_behaviour.specs.Runs.{Act}
use Rattle.ic_behaviour.specs.Submitted.{empty}
use Rattle.ct_check.specs.Moving.{Moving}
use Rattle.ct_check.specs.declared.checked.CheckedKind.{CheckedKind}
use Rattle.ct_check.specs.declared.checked.CheckedStep.{CheckedStep}
use Rattle.ct_check.specs.declared.checked.CheckedStep.TheVariants.{Statement, Interleave}
use Rattle.ct_outcomes.specs.declared.named.Named.{Named}
use Rattle.ct_run.specs.Called.{after_acts}
use Rattle.ct_run.specs.Statements.{Setting, IsMet, first_names}
use Rattle.ct_cases.specs.Interleaves.{IsOnWay, IsEnd, CallsAreMet}

-- a state that a test comes to, what names stand for there, the parts that are left, and the deliveries of its interleaves so far
pub data Comes (setting : Setting) (steps : List CheckedStep) : State → List Named → (left : List CheckedStep) → (order : List ℕ) → Type 0 where
  begins : Comes setting steps empty first_names steps []
  states : (s : State) (names bound : List Named) (statement : CheckedKind) (left : List CheckedStep) (order : List ℕ) (acts : List Act)
      → Comes setting steps s names (Statement statement ∷ left) order
      → IsMet setting s names statement acts bound
      → Comes setting steps (after_acts setting.charge s acts) (names ++ bound) left order
  leaves : (s t : State) (names bound : List Named) (moves : List Moving) (numbers : List (Option ℕ)) (left : List CheckedStep) (order more : List ℕ)
      → Comes setting steps s names (Interleave moves ∷ left) order
      → IsOnWay setting names s moves numbers more t → IsEnd t → CallsAreMet setting names t moves numbers bound
      → Comes setting steps t (names ++ bound) left (order ++ more)
