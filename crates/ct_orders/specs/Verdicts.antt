-- How a test ends.
use Rattle.std.specs.Prelude.{◌≡◌, ◌⊎◌, ◌+◌, ◌<◌, ◌≤◌, ◌++◌, ℕ, List, [], ◌∷◌, length, map, All, Option}
use Rattle.ic_behaviour.specs.State.{State}
use Rattle.ic_behaviour.specs.Runs.{Act}
use Rattle.ct_check.specs.Moving.{Moving}
use Rattle.ct_check.specs.declared.checked.CheckedKind.{CheckedKind}
use Rattle.ct_check.specs.declared.checked.CheckedStep.{CheckedStep}
use Rattle.ct_check.specs.declared.checked.CheckedStep.TheVariants.{Statement, Interleave}
use Rattle.ct_outcomes.specs.declared.named.Named.{Named}
use Rattle.ct_outcomes.specs.declared.came.Came.{Came}
use Rattle.ct_run.specs.Statements.{Setting, IsMet, IsUnmet}
use Rattle.ct_search.specs.Visits.{IsMore}
use Rattle.ct_worlds.specs.Worlds.{worlds}
use Rattle.ct_cases.specs.Interleaves.{IsOnWay}
use Rattle.ct_cases.specs.Meanings.{Meaning, AreApart}
use Rattle.ct_cases.specs.Reached.{Reached, IsBegun}
use Rattle.ct_cases.specs.Holding.{CanBegin, QueriesHold, CallsHold, EndsWithin, HoldsTo, IsRefuted, IsStuck}
use Rattle.ct_orders.specs.Ways.{Comes}

-- the statements of the preamble, and then the parts of a test
abbrev pub whole : List CheckedKind → List CheckedStep → List CheckedStep
whole preamble steps = map Statement preamble ++ steps

-- ---- all holds

-- each statement that a way comes to is met
abbrev pub StatementsHold : Setting → List CheckedStep → Type 0
StatementsHold setting steps =
    (s : State) (names : List Named) (statement : CheckedKind) (left : List CheckedStep) (order : List ℕ)
    → Comes setting steps s names (Statement statement ∷ left) order
    → (acts : List Act) × (bound : List Named) × IsMet setting s names statement acts bound

-- what holds of an interleave on each way that comes to it
abbrev pub OnEachWay : Setting → List CheckedStep → (List Named → State → List Moving → Type 0) → Type 0
OnEachWay setting steps Holds =
    (s : State) (names : List Named) (moves : List Moving) (left : List CheckedStep) (order : List ℕ)
    → Comes setting steps s names (Interleave moves ∷ left) order → Holds names s moves

-- a test passes where on every way through it all holds, and every way ends
pub record Passes (setting : Setting) (steps : List CheckedStep) : Type 0 where
  pub statements : StatementsHold setting steps
  pub begins : OnEachWay setting steps (CanBegin setting)
  pub queries : OnEachWay setting steps (QueriesHold setting)
  pub calls : OnEachWay setting steps (CallsHold setting)
  pub most : ℕ
  pub ends : OnEachWay setting steps (EndsWithin setting most)

-- all holds of an interleave
pub record AllHolds (setting : Setting) (longest : ℕ) (s : State) (names : List Named) (moves : List Moving) : Type 0 where
  pub begins : CanBegin setting names s moves
  pub queries : QueriesHold setting names s moves
  pub calls : CallsHold setting names s moves
  pub ends : EndsWithin setting longest names s moves

-- all holds of the first of the parts that are left
abbrev pub Holds : Setting → (longest : ℕ) → State → List Named → List CheckedStep → Type 0
Holds setting longest s names [] = Unit {0}
Holds setting longest s names (Statement statement ∷ left) = (acts : List Act) × (bound : List Named) × IsMet setting s names statement acts bound
Holds setting longest s names (Interleave moves ∷ left) = AllHolds setting longest s names moves

-- ---- too many cases

-- a state in which the moves are submitted, on a way that comes there
pub record IsStart (setting : Setting) (steps left : List CheckedStep) (moves : List Moving) (meanings : List Meaning) (start : ℕ × State) : Type 0 where
  pub case : Reached
  pub comes : Comes setting steps case.state case.names (Interleave moves ∷ left) case.order
  pub begun : IsBegun setting moves meanings case start

-- more cases than that can be met in an interleave, no two of them one
pub record HasTooMany (setting : Setting) (steps left : List CheckedStep) (moves : List Moving) (most : ℕ) : Type 0 where
  pub meanings : List Meaning
  pub apart : AreApart meanings
  pub starts : List (ℕ × State)
  pub begun : All (IsStart setting steps left moves meanings) starts
  pub more : IsMore (worlds setting.charge.limit setting.charge.price) starts most

-- so it is in one of the first parts of a test
abbrev pub SomeHasTooMany : Setting → (most : ℕ) → List CheckedStep → (count : ℕ) → Type 0
SomeHasTooMany setting most steps count =
    (left : List CheckedStep) × (moves : List Moving) × HasTooMany setting steps left moves most × (length steps ≤ count + length left)

-- ---- the first part that is not met

-- so it is on each way that comes to an interleave; or one of the first parts has too many cases
abbrev pub OnEachWayTo : Setting → (most : ℕ) → List CheckedStep → List Moving → (left : List CheckedStep) → (count : ℕ) → (List Named → State → Type 0) → Type 0
OnEachWayTo setting most steps moves left count Holds =
    ((s : State) (names : List Named) (order : List ℕ) → Comes setting steps s names (Interleave moves ∷ left) order → Holds names s)
    ⊎ SomeHasTooMany setting most steps count

-- where this many parts come before the one that is next
abbrev pub IsAt : List CheckedStep → (place : ℕ) → (left : List CheckedStep) → Type 0
IsAt steps place left = length steps ≡ place + length left

-- the part at a place is not met on the way with this order, where names stand for these, and this came; of an interleave the move is
-- the first that cannot be submitted, or where all can be, the first that is not met
pub data Fails (setting : Setting) (most : ℕ) (steps : List CheckedStep) : (place : ℕ) → (order : List ℕ) → List Named → Came → Type 0 where
  statement : (s : State) (names : List Named) (statement : CheckedKind) (left : List CheckedStep) (place : ℕ) (order : List ℕ) (came : Came)
      → Comes setting steps s names (Statement statement ∷ left) order → IsAt steps place (Statement statement ∷ left)
      → IsUnmet setting s names statement came
      → Fails setting most steps place order names came
  unsent : (s : State) (names : List Named) (moves : List Moving) (left : List CheckedStep) (place : ℕ) (order : List ℕ) (came : Came)
      → Comes setting steps s names (Interleave moves ∷ left) order → IsAt steps place (Interleave moves ∷ left)
      → (stuck : IsStuck setting names s moves came) → OnEachWayTo setting most steps moves left place (λ known u. CanBegin setting known u stuck.before)
      → Fails setting most steps place order names came
  move : (s t : State) (names : List Named) (moves : List Moving) (numbers : List (Option ℕ)) (left : List CheckedStep) (place : ℕ) (order more : List ℕ) (came : Came)
      → Comes setting steps s names (Interleave moves ∷ left) order → IsAt steps place (Interleave moves ∷ left)
      → IsOnWay setting names s moves numbers more t → (refuted : IsRefuted setting names t moves numbers came)
      → OnEachWayTo setting most steps moves left (place + 1) (λ known u. HoldsTo setting known u moves refuted.place)
      → Fails setting most steps place (order ++ more) names came

-- all holds of the parts before a place, on every way; or one of them has too many cases
abbrev pub HoldsBefore : Setting → (most : ℕ) → List CheckedStep → (place : ℕ) → Type 0
HoldsBefore setting most steps place =
    ((longest : ℕ) × ((s : State) (names : List Named) (rest : List CheckedStep) (order : List ℕ)
    → Comes setting steps s names rest order → length steps < place + length rest → Holds setting longest s names rest))
    ⊎ SomeHasTooMany setting most steps place

-- a test fails at a part, and all holds before it
pub record FailsFirst (setting : Setting) (most : ℕ) (steps : List CheckedStep) (place : ℕ) (order : List ℕ) (names : List Named) (came : Came) : Type 0 where
  pub fails : Fails setting most steps place order names came
  pub before : HoldsBefore setting most steps place
