-- What holds of an interleave in a case, and what does not.
use Rattle.std.specs.Prelude.{◌≡◌, ◌≤◌, ◌++◌, ℕ, List, ◌∷◌, length, take, Option, Some, slice_get}
use Rattle.ic_behaviour.specs.State.{State}
use Rattle.ct_check.specs.Moving.{Moving}
use Rattle.ct_outcomes.specs.declared.named.Named.{Named}
use Rattle.ct_outcomes.specs.declared.came.Came.{Came}
use Rattle.ct_asked.specs.declared.asked.Asked.{Asked}
use Rattle.ct_asked.specs.Asked.{IsAsked}
use Rattle.ct_run.specs.Called.{doing}
use Rattle.ct_run.specs.Statements.{Setting, IsMoveMet}
use Rattle.ct_cases.specs.Interleaves.{is_query, Choose, AreSubmitted, IsUnsent, IsOnWay, IsEnd, came_under, QueriesAreMet, CallsAreMet}

-- what tests are run with, and the most cases that an interleave may meet
pub record Testing : Type 0 where
  pub setting : Setting
  pub most : ℕ

-- ---- all holds

-- the moves of an interleave can be submitted
abbrev pub CanBegin : Setting → List Named → State → List Moving → Type 0
CanBegin setting names s moves = (numbers : List (Option ℕ)) × (start : State) × AreSubmitted setting names s moves numbers start

-- in each state on a way through it its queries are met
abbrev pub QueriesHold : Setting → List Named → State → List Moving → Type 0
QueriesHold setting names s moves =
    (numbers : List (Option ℕ)) (order : List ℕ) (t : State) → IsOnWay setting names s moves numbers order t → QueriesAreMet setting names t moves

-- where no message is left its calls are met
abbrev pub CallsHold : Setting → List Named → State → List Moving → Type 0
CallsHold setting names s moves =
    (numbers : List (Option ℕ)) (order : List ℕ) (t : State) → IsOnWay setting names s moves numbers order t → IsEnd t
    → (bound : List Named) × CallsAreMet setting names t moves numbers bound

-- no way through it makes more deliveries than that, so each one ends
abbrev pub EndsWithin : Setting → (most : ℕ) → List Named → State → List Moving → Type 0
EndsWithin setting most names s moves =
    (numbers : List (Option ℕ)) (order : List ℕ) (t : State) → IsOnWay setting names s moves numbers order t → length order ≤ most

-- the moves of an interleave can be submitted, and on each way through it those before a place are met
pub record HoldsTo (setting : Setting) (names : List Named) (s : State) (moves : List Moving) (place : ℕ) : Type 0 where
  pub begins : CanBegin setting names s moves
  pub queries : (numbers : List (Option ℕ)) (order : List ℕ) (t : State) → IsOnWay setting names s moves numbers order t → QueriesAreMet setting names t (take place moves)
  pub calls : (numbers : List (Option ℕ)) (order : List ℕ) (t : State) → IsOnWay setting names s moves numbers order t → IsEnd t
      → (bound : List Named) × CallsAreMet setting names t (take place moves) (take place numbers) bound

-- ---- something does not

-- this came of a query, and it is not what is expected
pub record IsQueryUnmet (setting : Setting) (names : List Named) (t : State) (moving : Moving) (came : Came) : Type 0 where
  pub asked : Asked
  pub is : IsAsked setting.files names moving asked
  pub told : came ≡ (doing setting.charge t asked).came
  pub unmet : (bound : List Named) → IsMoveMet setting.files names moving.action came bound → ⊥

-- of a call where no message is left
pub record IsCallUnmet (setting : Setting) (names : List Named) (t : State) (moving : Moving) (number : Option ℕ) (came : Came) : Type 0 where
  pub ended : IsEnd t
  pub told : came ≡ came_under t number
  pub unmet : (bound : List Named) → IsMoveMet setting.files names moving.action came bound → ⊥

-- a move of an interleave is not met in a state on the way
abbrev pub IsMoveUnmet : Setting → List Named → State → Moving → Option ℕ → Came → Type 0
IsMoveUnmet setting names t moving number came =
    Choose (is_query moving.action) (IsQueryUnmet setting names t moving came) (IsCallUnmet setting names t moving number came)

-- so it is with the move at a place
pub record IsRefuted (setting : Setting) (names : List Named) (t : State) (moves : List Moving) (numbers : List (Option ℕ)) (came : Came) : Type 0 where
  pub place : ℕ
  pub moving : Moving
  pub number : Option ℕ
  pub move : slice_get moves place ≡ Some moving
  pub accepted : slice_get numbers place ≡ Some number
  pub unmet : IsMoveUnmet setting names t moving number came

-- the moves before one are submitted, and it cannot be
pub record IsStuck (setting : Setting) (names : List Named) (s : State) (moves : List Moving) (came : Came) : Type 0 where
  pub before : List Moving
  pub moving : Moving
  pub after : List Moving
  pub numbers : List (Option ℕ)
  pub state : State
  pub parts : moves ≡ before ++ moving ∷ after
  pub submitted : AreSubmitted setting names s before numbers state
  pub unsent : IsUnsent setting names state moving came
