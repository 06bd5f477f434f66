-- How a test ends: statement after statement from the empty state, each met; or at the first that is not.
use Rattle.std.specs.Prelude.{◌≡◌, ◌++◌, ℕ, zero, suc, List, [], ◌∷◌, Option, Some, None}
use Rattle.ic_behaviour.specs.State.{State}
use Rattle.ic_behaviour.specs.Runs.{Act}
use Rattle.ic_behaviour.specs.Submitted.{empty}
use Rattle.ct_check.specs.declared.checked.CheckedKind.{CheckedKind}
use Rattle.ct_check.specs.declared.checked.CheckedStep.{CheckedStep}
use Rattle.ct_check.specs.declared.checked.CheckedStep.TheVariants.{Statement, Interleave}
use Rattle.ct_outcomes.specs.declared.named.Named.{Named}
use Rattle.ct_outcomes.specs.declared.came.Came.{Came}
use Rattle.ct_run.specs.Called.{after_acts}
use Rattle.ct_run.specs.Statements.{Setting, IsMet, IsUnmet, first_names}

-- each statement is met: what happens, one after another, and the state and the names at the end
abbrev pub Runs : Setting → State → List Named → List CheckedKind → List Act → State → List Named → Type 0
Runs setting s names [] acts end last = (acts ≡ []) × (end ≡ s) × (last ≡ names)
Runs setting s names (statement ∷ statements) acts end last =
    (first : List Act) × (bound : List Named) × (more : List Act) × IsMet setting s names statement first bound
    × Runs setting (after_acts setting.charge s first) (names ++ bound) statements more end last × (acts ≡ first ++ more)

-- the statements before this place are met and lead to these names; the one at it is not, and this came
abbrev pub Stops : Setting → State → List Named → List CheckedKind → (place : ℕ) → Came → (last : List Named) → Type 0
Stops setting s names [] place came last = ⊥
Stops setting s names (statement ∷ statements) zero came last = IsUnmet setting s names statement came × (last ≡ names)
Stops setting s names (statement ∷ statements) (suc place) came last =
    (acts : List Act) × (bound : List Named) × IsMet setting s names statement acts bound
    × Stops setting (after_acts setting.charge s acts) (names ++ bound) statements place came last

-- a test passes: each of its statements is met
abbrev pub Passes : Setting → List CheckedKind → Type 0
Passes setting statements = (acts : List Act) × (end : State) × (names : List Named) × Runs setting empty first_names statements acts end names

-- a test fails at its first statement that is not met: its place, what came, and the names that those before it bound
abbrev pub Fails : Setting → List CheckedKind → (place : ℕ) → Came → List Named → Type 0
Fails setting statements place came names = Stops setting empty first_names statements place came names

-- the statements of a test, in order, without its interleaves
abbrev pub without_interleaves : List CheckedStep → List CheckedKind
without_interleaves [] = []
without_interleaves (Statement statement ∷ steps) = statement ∷ without_interleaves steps
without_interleaves (Interleave moves ∷ steps) = without_interleaves steps

-- ---- what code holds of these

-- a statement is met and leads to the next state and names; or this came, and nothing is bound
abbrev pub Steps : Setting → State → List Named → CheckedKind → State → List Named → Option Came → Type 0
Steps setting s names statement end next None =
    (acts : List Act) × (bound : List Named) × IsMet setting s names statement acts bound
    × (end ≡ after_acts setting.charge s acts) × (next ≡ names ++ bound)
Steps setting s names statement end next (Some came) = IsUnmet setting s names statement came × (next ≡ names)

-- the same of statements, one after another; of one that is not met its place among them
abbrev pub Walks : Setting → State → List Named → List CheckedKind → State → List Named → Option (ℕ × Came) → Type 0
Walks setting s names statements end next None = (acts : List Act) × Runs setting s names statements acts end next
Walks setting s names statements end next (Some failing) = Stops setting s names statements failing.0 failing.1 next
