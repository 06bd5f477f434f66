-- What the functions answer: rows for the kinds of their answers. No standard has this.
use Rattle.std.specs.Prelude.{◌≡◌, ◌⊎◌, ◌<◌, ◌++◌, ℕ, Bool, List, [], ◌∷◌, length, map, take, All, Option, Some, None}
use Rattle.std.specs.Bool.{OnTrue, OnFalse}
use Rattle.std.specs.List.{Any, AllByRecursion}
use Rattle.ic_behaviour.specs.State.{State}
use Rattle.ic_behaviour.specs.declared.charge.Charge.{Charge}
use Rattle.ic_keep.specs.Kept.{state_at}
use Rattle.ct_search.specs.declared.case.Case.{Case as Met}
use Rattle.ic_script.specs.declared.Ask.{Ask}
use Rattle.ct_check.specs.Moving.{Moving}
use Rattle.ct_check.specs.declared.checked.CheckedKind.{CheckedKind}
use Rattle.ct_outcomes.specs.declared.named.Named.{Named}
use Rattle.ct_outcomes.specs.declared.came.Came.{Came}
use Rattle.ct_outcomes.specs.declared.came.Came.TheVariants.{TooManyCalls}
use Rattle.ct_run.specs.Called.{most_calls, if_accepted}
use Rattle.ct_run.specs.Statements.{Setting, IsMoveMet}
use Rattle.ct_worlds.specs.declared.worlds.NamedWorld.{NamedWorld}
use Rattle.ct_worlds.specs.Worlds.{IsKeptNamed, named_at}
use Rattle.ct_cases.specs.declared.case.Case.{Case}
use Rattle.ct_cases.specs.declared.case.Tables.{Tables}
use Rattle.ct_cases.specs.declared.judging.Found.{Found}
use Rattle.ct_cases.specs.declared.judging.Found.TheVariants.{Passed, End, Unmet as NotMet}
use Rattle.ct_cases.specs.declared.judging.Refuted.{Refuted}
use Rattle.ct_cases.specs.declared.statement.Goes.{Goes}
use Rattle.ct_cases.specs.declared.statement.Goes.TheVariants as goes
use Rattle.ct_cases.specs.declared.statement.Going.{Going}
use Rattle.ct_cases.specs.declared.statement.Going.TheVariants as going
use Rattle.ct_cases.specs.declared.submitting.Sent.{Sent}
use Rattle.ct_cases.specs.declared.submitting.Sent.TheVariants.{As, Not}
use Rattle.ct_cases.specs.declared.submitting.Unsent.{Unsent}
use Rattle.ct_cases.specs.declared.failing.Failing.{Failing}
use Rattle.ct_cases.specs.Interleaves.{IsSubmitted, AreSubmitted, IsUnsent, IsEnd, IsAnswered, came_under, QueryIsMet, QueriesAreMet, CallIsMet, CallsAreMet}
use Rattle.ct_cases.specs.Meanings.{Meaning}
use Rattle.ct_cases.specs.Reached.{IsBegun}
use Rattle.ct_cases.specs.Holding.{IsStuck, IsQueryUnmet, IsCallUnmet, IsMoveUnmet, IsRefuted}
use Rattle.ct_cases.specs.Cases.{IsHeld, AreHeld, reached, all_reached, IsAfter, AreAfter, IsUnmetIn, AreBegun, Begins, IsStuckIn, IsRefutedFrom, HoldsToFrom, HasMore, Leads, order_at, Stage, IsEndOf, FrontHolds, IsRefutedIn, AreJudged}

-- ---- statements

abbrev pub GoesIn : Setting → Tables → Tables → Case → CheckedKind → Goes → Type 0
GoesIn setting old new case statement (goes.To after) = IsHeld new after × IsAfter setting statement (reached old case) (reached new after)
GoesIn setting old new case statement (goes.Fails f) = IsUnmetIn setting statement f.order.items f.names f.unmet.came (reached old case)

abbrev pub GoesOn : Setting → Tables → Tables → List Case → CheckedKind → Going → Type 0
GoesOn setting old new cases statement (going.On after) = AreHeld new after.items × AreAfter setting statement (all_reached old cases) (all_reached new after.items)
GoesOn setting old new cases statement (going.Fails f) = Any (IsUnmetIn setting statement f.order.items f.names f.unmet.came) (all_reached old cases)

-- ---- submissions

abbrev pub IsCallSent : Charge → State → Ask → State → Sent → Type 0
IsCallSent charge s ask t (As number) = (length s.requests < most_calls) × ◌≡◌ {A = State × Option ℕ} (t, number) (if_accepted charge s ask)
IsCallSent charge s ask t (Not came) = (length s.requests < most_calls → ⊥) × (came ≡ TooManyCalls) × (t ≡ s)

abbrev pub IsSent : Setting → List Named → State → Moving → State → Sent → Type 0
IsSent setting names s moving t (As number) = IsSubmitted setting names s moving number t
IsSent setting names s moving t (Not came) = IsUnsent setting names s moving came × (t ≡ s)

-- the moves are submitted; or the one at a place is stuck
abbrev pub AreSent : Setting → List Named → State → List Moving → List (Option ℕ) → State → Option Unsent → Type 0
AreSent setting names s moves numbers t None = AreSubmitted setting names s moves numbers t
AreSent setting names s moves numbers t (Some u) = (stuck : IsStuck setting names s moves u.came) × (length stuck.before ≡ u.place)

-- ---- starts

abbrev pub IsStarted : Setting → Tables → Tables → Case → List Moving → NamedWorld → Option Unsent → Type 0
IsStarted setting old new case moves start None = IsBegun setting moves new.meanings (reached old case) (named_at new.keeper start)
IsStarted setting old new case moves start (Some u) =
    (stuck : IsStuck setting (reached old case).names (reached old case).state moves u.came) × (length stuck.before ≡ u.place)

-- each case has a start, or the move at a place is stuck in one, and those before it are stuck in none
abbrev pub AreStartedTo : Setting → Tables → Tables → List Case → List Moving → List NamedWorld → (place : ℕ) → Option Failing → Type 0
AreStartedTo setting old new cases moves starts place None =
    AllByRecursion (IsKeptNamed new.keeper) starts × AreBegun setting moves new.meanings (all_reached old cases) (map (named_at new.keeper) starts)
AreStartedTo setting old new cases moves starts place (Some f) =
    Any (IsStuckIn setting moves place f.order.items f.names f.unmet.came) (all_reached old cases) × All (Begins setting moves place) (all_reached old cases)

abbrev pub AreStarted : Setting → Tables → Tables → List Case → List Moving → List NamedWorld → Option Failing → Type 0
AreStarted setting old new cases moves starts None = AreStartedTo setting old new cases moves starts 0 None
AreStarted setting old new cases moves starts (Some f) = (place : ℕ) × AreStartedTo setting old new cases moves starts place (Some f)

-- ---- judgements

-- a query is met, in the state as it is; or it is not
abbrev pub IsQueryJudged : Setting → List Named → State → Moving → State → Option Came → Type 0
IsQueryJudged setting names t moving same None = (same ≡ t) × IsAnswered setting names t moving
IsQueryJudged setting names t moving same (Some came) = IsQueryUnmet setting names t moving came

-- a call is met where no message is left, and binds names; or it is not
abbrev pub IsCallJudged : Setting → List Named → State → Moving → Option ℕ → (bound more : List Named) → Option Came → Type 0
IsCallJudged setting names t moving number bound more None =
    (own : List Named) × (more ≡ bound ++ own) × (IsEnd t → IsMoveMet setting.files names moving.action (came_under t number) own)
IsCallJudged setting names t moving number bound more (Some came) = IsCallUnmet setting names t moving number came

-- a move is met, and where no message is left it binds names; or it is not
abbrev pub IsMoveJudged : Setting → List Named → State → Moving → Option ℕ → State → (bound more : List Named) → Option Came → Type 0
IsMoveJudged setting names t moving number same bound more None =
    (own : List Named) × (more ≡ bound ++ own) × (same ≡ t) × QueryIsMet setting names t moving × (IsEnd t → CallIsMet setting names t moving number own)
IsMoveJudged setting names t moving number same bound more (Some came) = IsMoveUnmet setting names t moving number came

-- the moves before a place are met in a state
abbrev pub FrontIsMet : Setting → List Named → State → List Moving → List (Option ℕ) → (place : ℕ) → Type 0
FrontIsMet setting names t moves numbers place =
    QueriesAreMet setting names t (take place moves) × (IsEnd t → (bound : List Named) × CallsAreMet setting names t (take place moves) (take place numbers) bound)

-- the same of moves, of which the first that is not met has a place
abbrev pub AreMovesJudged : Setting → List Named → State → List Moving → List (Option ℕ) → State → List Named → Option Refuted → Type 0
AreMovesJudged setting names t moves numbers same next None =
    (same ≡ t) × QueriesAreMet setting names t moves
    × (IsEnd t → (bound : List Named) × CallsAreMet setting names t moves (take (length moves) numbers) bound × (next ≡ names ++ bound))
AreMovesJudged setting names t moves numbers same next (Some r) =
    (r.place < length moves) × ((refuted : IsRefuted setting names t moves numbers r.unmet.came) × (refuted.place ≡ r.place)) × FrontIsMet setting names t moves numbers r.place

-- the same at a stage
abbrev pub IsStageJudged : Setting → List Moving → State → Meaning → List Named → Option Refuted → Type 0
IsStageJudged setting moves t meaning next None =
    QueriesAreMet setting meaning.0 t moves
    × (IsEnd t → (bound : List Named) × CallsAreMet setting meaning.0 t moves (take (length moves) meaning.1) bound × (next ≡ meaning.0 ++ bound))
IsStageJudged setting moves t meaning next (Some r) =
    (r.place < length moves) × ((refuted : IsRefuted setting meaning.0 t moves meaning.1 r.unmet.came) × (refuted.place ≡ r.place)) × FrontIsMet setting meaning.0 t moves meaning.1 r.place

-- a case in which all is met: it is a case after the interleave, where no message is left
abbrev pub IsLeft : Tables → Tables → List Case → Met NamedWorld → List Named → Found → Type 0
IsLeft old new cases m names Passed = m.kept.kept.messages ≡ [] → ⊥
IsLeft old new cases m names (End e) =
    (m.kept.kept.messages ≡ []) × IsHeld new e
    × (reached new e ≡ record { state = state_at old.keeper m.kept.kept; names = names; order = order_at cases m.start ++ m.order.items })
IsLeft old new cases m names (NotMet place f) = ⊥

abbrev pub IsFound : Setting → List Moving → Tables → Stage → Found → Type 0
IsFound setting moves new g Passed = QueriesAreMet setting g.meaning.0 g.state moves × (IsEnd g.state → ⊥)
IsFound setting moves new g (End e) = IsHeld new e × QueriesAreMet setting g.meaning.0 g.state moves × IsEndOf setting moves g (reached new e)
IsFound setting moves new g (NotMet place f) = (place < length moves) × IsRefutedIn setting moves place f.order.items f.names f.unmet.came g × FrontHolds setting moves place g

-- an end comes last; what is not met takes the place of what was not before
abbrev pub AddsFound : Found → (ends after : List Case) → (failing last : Option Failing) → (count left : ℕ) → Type 0
AddsFound Passed ends after failing last count left = (after ≡ ends) × (last ≡ failing) × (left ≡ count)
AddsFound (End e) ends after failing last count left = (after ≡ ends ++ e ∷ []) × (last ≡ failing) × (left ≡ count)
AddsFound (NotMet place f) ends after failing last count left = (after ≡ ends) × (last ≡ Some f) × (left ≡ place)

-- all is met, or the move at a place is not met in one, and those before it are met in all
abbrev pub AreFoundTo : Setting → List Moving → Tables → List Stage → List Case → (place : ℕ) → Option Failing → Type 0
AreFoundTo setting moves new stages ends place None = AreHeld new ends × AreJudged setting moves stages (all_reached new ends)
AreFoundTo setting moves new stages ends place (Some f) =
    Any (IsRefutedIn setting moves place f.order.items f.names f.unmet.came) stages × All (FrontHolds setting moves place) stages

abbrev pub AreFound : Setting → List Moving → Tables → List Stage → List Case → Option Failing → Type 0
AreFound setting moves new stages ends None = AreFoundTo setting moves new stages ends 0 None
AreFound setting moves new stages ends (Some f) = (place : ℕ) × AreFoundTo setting moves new stages ends place (Some f)

-- ---- interleaves

abbrev pub IsInterleaved : Setting → ℕ → Tables → Tables → List Case → List Moving → List Case → Option Failing → Bool → Type 0
IsInterleaved setting most old new cases moves ends None all = AreHeld new ends × Leads setting moves most (all_reached old cases) (all_reached new ends) all
IsInterleaved setting most old new cases moves ends (Some f) all =
    ((place : ℕ) × Any (IsStuckIn setting moves place f.order.items f.names f.unmet.came) (all_reached old cases) × All (Begins setting moves place) (all_reached old cases))
    ⊎ ((place : ℕ) × Any (IsRefutedFrom setting moves place f.order.items f.names f.unmet.came) (all_reached old cases)
    × OnTrue all (All (HoldsToFrom setting moves place) (all_reached old cases)) × OnFalse all (HasMore setting moves most (all_reached old cases)))
