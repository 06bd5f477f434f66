-- How far a test has come: its cases are those that it comes to, and what came before holds. No standard has this.
use Rattle.std.specs.Prelude.{◌≡◌, ◌<◌, ◌≤◌, ◌++◌, ℕ, Bool, true, false, List, ◌∷◌, length, All, Option, Some, None}
use Rattle.ic_behaviour.specs.State.{State}
use Rattle.ct_check.specs.Moving.{Moving}
use Rattle.ct_check.specs.declared.checked.CheckedStep.{CheckedStep}
use Rattle.ct_check.specs.declared.checked.CheckedStep.TheVariants.{Statement, Interleave}
use Rattle.ct_outcomes.specs.declared.named.Named.{Named}
use Rattle.ct_run.specs.Statements.{Setting}
use Rattle.ct_cases.specs.declared.case.Tables.{Tables}
use Rattle.ct_orders.specs.declared.tester.Course.{Course}
use Rattle.ct_orders.specs.declared.tester.Next.{Next}
use Rattle.ct_orders.specs.declared.tester.Next.TheVariants.{On, Fails as Stops}
use Rattle.ct_orders.specs.declared.verdict.Ended.{Ended}
use Rattle.ct_orders.specs.declared.verdict.NotMet.{NotMet}
use Rattle.ct_orders.specs.declared.verdict.TooMany.{TooMany}
use Rattle.ct_orders.specs.declared.verdict.Verdict.{Verdict}
use Rattle.ct_orders.specs.declared.verdict.Verdict.TheVariants.{Passed, Failed, Undecided}
use Rattle.ct_cases.specs.Reached.{Reached}
use Rattle.ct_orders.specs.Ways.{Comes}
use Rattle.ct_orders.specs.Verdicts.{Holds, IsAt, Passes, FailsFirst, HasTooMany}
use Rattle.ct_cases.specs.Cases.{HasCase, AreHeld, all_reached}

abbrev pub is_interleave : CheckedStep → Bool
is_interleave (Statement statement) = false
is_interleave (Interleave moves) = true

-- the first interleave that has too many cases
abbrev pub first_undecided : Option TooMany → (all : Bool) → (here : TooMany) → Option TooMany
first_undecided (Some first) all here = Some first
first_undecided None true here = None
first_undecided None false here = Some here

-- where nothing was left out: each way comes to one of the cases, and all holds that comes before these parts
pub record IsWhole (setting : Setting) (steps left : List CheckedStep) (cases : List Reached) : Type 0 where
  pub comes : (s : State) (names : List Named) (order : List ℕ) → Comes setting steps s names left order → HasCase cases s names
  pub longest : ℕ
  pub before : (s : State) (names : List Named) (rest : List CheckedStep) (order : List ℕ) → Comes setting steps s names rest order → length left < length rest
      → Holds setting longest s names rest

-- too many cases are in an interleave before these parts, which has a place among all
abbrev pub HadTooMany : Setting → (most : ℕ) → (steps left : List CheckedStep) → (part : ℕ) → Type 0
HadTooMany setting most steps left part =
    (rest : List CheckedStep) × (moves : List Moving) × HasTooMany setting steps rest moves most × (length left ≤ length rest) × IsAt steps part (Interleave moves ∷ rest)

-- or nothing was left out
abbrev pub IsDecided : Setting → (most : ℕ) → List CheckedStep → List CheckedStep → List Reached → (undecided : Option TooMany) → Type 0
IsDecided setting most steps left cases None = IsWhole setting steps left cases
IsDecided setting most steps left cases (Some first) = HadTooMany setting most steps left first.part

-- a test has come to these parts, with these cases
pub record IsSoFar (setting : Setting) (most : ℕ) (steps left : List CheckedStep) (cases : List Reached) (undecided : Option TooMany) : Type 0 where
  pub done : List CheckedStep
  pub parts : steps ≡ done ++ left
  pub sound : All (λ (c : Reached). Comes setting steps c.state c.names left c.order) cases
  pub decided : IsDecided setting most steps left cases undecided

-- what comes of a part: the tables keep its cases
abbrev pub IsHeldNext : Tables → Next → Type 0
IsHeldNext t (On course) = AreHeld t course.cases.items
IsHeldNext t (Stops f) = Unit {0}

-- and the test has come further, or it fails
abbrev pub IsNext : Setting → (most : ℕ) → (steps left : List CheckedStep) → (place : ℕ) → Tables → Next → Type 0
IsNext setting most steps left place t (On course) = IsSoFar setting most steps left (all_reached t course.cases.items) course.undecided
IsNext setting most steps left place t (Stops f) = FailsFirst setting most steps place f.order.items f.names f.unmet.came

-- the verdict of a test is true
pub record IsVerdict (setting : Setting) (most : ℕ) (steps : List CheckedStep) (ended : Ended) : Type 0 where
  pub passed : ended.verdict ≡ Passed → Passes setting steps
  pub failed : (unmet : NotMet) → ended.verdict ≡ Failed unmet → FailsFirst setting most steps unmet.failure.place ended.way.order.items unmet.names unmet.failure.unmet.came
  pub undecided : (first : TooMany) → ended.verdict ≡ Undecided first → (left : List CheckedStep) × (moves : List Moving) × HasTooMany setting steps left moves most × IsAt steps first.part (Interleave moves ∷ left)

abbrev pub ended_with : (undecided : Option TooMany) → Verdict
ended_with None = Passed
ended_with (Some first) = Undecided first

-- the verdict where all that was seen is met
abbrev pub IsEnded : Course → Ended → Type 0
IsEnded course ended = ended.verdict ≡ ended_with course.undecided
