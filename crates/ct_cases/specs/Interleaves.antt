-- What an interleave does in a case: its moves are submitted, and messages are delivered in any order that the specification
-- allows (IC Interface Specification, "Ordering guarantees"); its queries may be asked in any state on the way.
use Rattle.std.specs.Prelude.{◌≡◌, ◌⊎◌, ◌<◌, ◌++◌, ℕ, Bool, true, false, List, [], ◌∷◌, length, Option, Some, None}
use Rattle.ic_behaviour.specs.State.{State}
use Rattle.ic_behaviour.specs.Steps.{step}
use Rattle.ic_script.specs.declared.Ask.{Ask}
use Rattle.ic_order.specs.Ways.{MayComeNext}
use Rattle.ct_check.specs.Moving.{Moving}
use Rattle.ct_check.specs.declared.checked.CheckedAction.{CheckedAction}
use Rattle.ct_check.specs.declared.checked.CheckedAction.TheVariants as actions
use Rattle.ct_outcomes.specs.declared.named.Named.{Named}
use Rattle.ct_outcomes.specs.declared.came.Came.{Came}
use Rattle.ct_outcomes.specs.declared.came.Came.TheVariants.{Refused, TooManyCalls}
use Rattle.ct_asked.specs.declared.asked.Asked.{Asked}
use Rattle.ct_asked.specs.declared.asked.Asked.TheVariants.{Call, Nothing}
use Rattle.ct_asked.specs.Asked.{IsAsked}
use Rattle.ct_run.specs.Called.{rules_of, came_now, doing, most_calls, if_accepted}
use Rattle.ct_run.specs.Statements.{Setting, IsMoveMet}

-- a query, and no call, upgrade or reinstallation
abbrev pub is_query : CheckedAction → Bool
is_query (actions.Query message) = true
is_query action = false

-- the first where this is so, and else the second
abbrev pub Choose : Bool → Type 0 → Type 0 → Type 0
Choose true P Q = P
Choose false P Q = Q

-- ---- submissions

-- a call is submitted, and accepted under this number or refused
pub record IsCallSubmitted (setting : Setting) (names : List Named) (s : State) (moving : Moving) (number : Option ℕ) (t : State) : Type 0 where
  pub ask : Ask
  pub asked : IsAsked setting.files names moving (Call ask)
  pub few : length s.requests < most_calls
  pub submitted : ◌≡◌ {A = State × Option ℕ} (t, number) (if_accepted setting.charge s ask)

-- so is a move; a query is left out
abbrev pub IsSubmitted : Setting → List Named → State → Moving → Option ℕ → State → Type 0
IsSubmitted setting names s moving number t =
    Choose (is_query moving.action) ((number ≡ None) × (t ≡ s)) (IsCallSubmitted setting names s moving number t)

-- the moves are submitted in order, no round between them
abbrev pub AreSubmitted : Setting → List Named → State → List Moving → List (Option ℕ) → State → Type 0
AreSubmitted setting names s [] [] t = t ≡ s
AreSubmitted setting names s (moving ∷ moves) (number ∷ numbers) t =
    (next : State) × IsSubmitted setting names s moving number next × AreSubmitted setting names next moves numbers t
AreSubmitted setting names s moves numbers t = ⊥

-- a call cannot be submitted, for this reason
abbrev pub IsCallUnsent : Setting → List Named → State → Moving → Came → Type 0
IsCallUnsent setting names s moving came =
    IsAsked setting.files names moving (Nothing came)
    ⊎ ((ask : Ask) × IsAsked setting.files names moving (Call ask) × (length s.requests < most_calls → ⊥) × (came ≡ TooManyCalls))

-- nor can a move; there is nothing of a query to be submitted
abbrev pub IsUnsent : Setting → List Named → State → Moving → Came → Type 0
IsUnsent setting names s moving came = Choose (is_query moving.action) ⊥ (IsCallUnsent setting names s moving came)

-- ---- deliveries

-- messages are delivered, each of which may come next
abbrev pub Deliver : Setting → State → (order : List ℕ) → State → Type 0
Deliver setting s [] t = t ≡ s
Deliver setting s (place ∷ order) t = MayComeNext s place × Deliver setting (step (rules_of setting.charge) s place) order t

-- a state on a way through an interleave, where its moves were accepted under these numbers
pub record IsOnWay (setting : Setting) (names : List Named) (s : State) (moves : List Moving) (numbers : List (Option ℕ)) (order : List ℕ) (t : State) : Type 0 where
  pub start : State
  pub submitted : AreSubmitted setting names s moves numbers start
  pub delivered : Deliver setting start order t

-- no message is left
abbrev pub IsEnd : State → Type 0
IsEnd t = t.messages ≡ []

-- ---- what is expected

-- what came of a call that was accepted under this number, or refused
abbrev pub came_under : State → Option ℕ → Came
came_under t None = Refused
came_under t (Some number) = came_now number t

-- a query is answered as is expected; what it would bind is bound nowhere
pub record IsAnswered (setting : Setting) (names : List Named) (t : State) (moving : Moving) : Type 0 where
  pub asked : Asked
  pub is : IsAsked setting.files names moving asked
  pub bound : List Named
  pub met : IsMoveMet setting.files names moving.action (doing setting.charge t asked).came bound

-- each query is, in this state; nothing is asked of a call
abbrev pub QueryIsMet : Setting → List Named → State → Moving → Type 0
QueryIsMet setting names t moving = Choose (is_query moving.action) (IsAnswered setting names t moving) (Unit {0})

abbrev pub QueriesAreMet : Setting → List Named → State → List Moving → Type 0
QueriesAreMet setting names t [] = Unit {0}
QueriesAreMet setting names t (moving ∷ moves) = QueryIsMet setting names t moving × QueriesAreMet setting names t moves

-- a call is answered as is expected, and binds these names; nothing is asked of a query
abbrev pub CallIsMet : Setting → List Named → State → Moving → Option ℕ → List Named → Type 0
CallIsMet setting names t moving number bound =
    Choose (is_query moving.action) (bound ≡ []) (IsMoveMet setting.files names moving.action (came_under t number) bound)

-- each call is met in a state where no message is left; what they bind, in the order of the file
abbrev pub CallsAreMet : Setting → List Named → State → List Moving → List (Option ℕ) → List Named → Type 0
CallsAreMet setting names t [] [] bound = bound ≡ []
CallsAreMet setting names t (moving ∷ moves) (number ∷ numbers) bound =
    (own : List Named) × (others : List Named) × CallIsMet setting names t moving number own
    × CallsAreMet setting names t moves numbers others × (bound ≡ own ++ others)
CallsAreMet setting names t moves numbers bound = ⊥
