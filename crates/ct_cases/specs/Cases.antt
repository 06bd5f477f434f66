-- What is kept of cases, and what the code makes of them. No standard has this.
use Rattle.std.specs.Prelude.{◌≡◌, ◌<◌, ◌≤◌, ◌++◌, ℕ, Bool, List, [], ◌∷◌, length, map, take, All, Option, Some, None, slice_get}
use Rattle.std.specs.Bool.{OnTrue, OnFalse}
use Rattle.std.specs.List.{Any, AllByRecursion}
use Rattle.ic_behaviour.specs.State.{State}
use Rattle.ic_behaviour.specs.Runs.{Act}
use Rattle.ic_keep.specs.Kept.{KeptState, state_at}
use Rattle.ic_keep.specs.IsKept.{IsKept}
use Rattle.ct_check.specs.Moving.{Moving}
use Rattle.ct_check.specs.declared.checked.CheckedKind.{CheckedKind}
use Rattle.ct_outcomes.specs.declared.named.Named.{Named}
use Rattle.ct_outcomes.specs.declared.came.Came.{Came}
use Rattle.ct_run.specs.Called.{after_acts}
use Rattle.ct_run.specs.Statements.{Setting, IsMet, IsUnmet}
use Rattle.ct_search.specs.declared.case.Case.{Case as Met}
use Rattle.ct_search.specs.Visits.{IsMore}
use Rattle.ct_worlds.specs.declared.worlds.NamedWorld.{NamedWorld}
use Rattle.ct_worlds.specs.Worlds.{worlds}
use Rattle.ct_cases.specs.declared.case.Case.{Case}
use Rattle.ct_cases.specs.declared.case.Tables.{Tables}
use Rattle.ct_cases.specs.Interleaves.{IsOnWay, IsEnd, QueriesAreMet, CallsAreMet}
use Rattle.ct_cases.specs.Meanings.{Meaning, AreApart, Extends, meaning_at}
use Rattle.ct_cases.specs.Reached.{Reached, IsBegun}
use Rattle.ct_cases.specs.Holding.{CanBegin, HoldsTo, QueriesHold, CallsHold, EndsWithin, IsStuck, IsRefuted}

-- ---- what is kept

abbrev pub reached : Tables → Case → Reached
reached t c = record { state = state_at t.keeper c.kept; names = (meaning_at t.meanings c.meaning).0; order = c.order.items }

abbrev pub all_reached : Tables → List Case → List Reached
all_reached t cases = map (reached t) cases

-- the tables keep its state, and what its names stand for
pub record IsHeld (t : Tables) (c : Case) : Type 0 where
  pub kept : IsKept t.keeper c.kept
  pub known : c.meaning < length t.meanings

abbrev pub AreHeld : Tables → List Case → Type 0
AreHeld t cases = AllByRecursion (IsHeld t) cases

-- what was kept stands for what it stood for
pub record Grows (old new : Tables) : Type 0 where
  pub kept : (k : KeptState) → IsKept old.keeper k → IsKept new.keeper k × (state_at new.keeper k ≡ state_at old.keeper k)
  pub meanings : Extends old.meanings new.meanings

-- before any interleave
abbrev pub first_case : State → List Named → Reached
first_case s names = record { state = s; names = names; order = [] }

-- ---- statements

-- where a case goes by a statement that is met
pub record IsAfter (setting : Setting) (statement : CheckedKind) (before after : Reached) : Type 0 where
  pub acts : List Act
  pub bound : List Named
  pub met : IsMet setting before.state before.names statement acts bound
  pub state : after.state ≡ after_acts setting.charge before.state acts
  pub names : after.names ≡ before.names ++ bound
  pub order : after.order ≡ before.order

-- each case goes to one, in order
abbrev pub AreAfter : Setting → CheckedKind → List Reached → List Reached → Type 0
AreAfter setting statement [] [] = Unit {0}
AreAfter setting statement (c ∷ cases) (d ∷ others) = IsAfter setting statement c d × AreAfter setting statement cases others
AreAfter setting statement cases others = ⊥

-- in a case a statement is not met, and this came
pub record IsUnmetIn (setting : Setting) (statement : CheckedKind) (order : List ℕ) (names : List Named) (came : Came) (c : Reached) : Type 0 where
  pub unmet : IsUnmet setting c.state c.names statement came
  pub same_order : order ≡ c.order
  pub same_names : names ≡ c.names

-- ---- interleaves

-- each case has a start, in order
abbrev pub AreBegun : Setting → List Moving → List Meaning → List Reached → List (ℕ × State) → Type 0
AreBegun setting moves meanings [] [] = Unit {0}
AreBegun setting moves meanings (c ∷ cases) (start ∷ starts) = IsBegun setting moves meanings c start × AreBegun setting moves meanings cases starts
AreBegun setting moves meanings cases starts = ⊥

-- the first moves can be submitted in a case
abbrev pub Begins : Setting → List Moving → (count : ℕ) → Reached → Type 0
Begins setting moves count c = CanBegin setting c.names c.state (take count moves)

-- in a case the move at a place cannot be submitted, for this reason
pub record IsStuckIn (setting : Setting) (moves : List Moving) (place : ℕ) (order : List ℕ) (names : List Named) (came : Came) (c : Reached) : Type 0 where
  pub stuck : IsStuck setting c.names c.state moves came
  pub at : length stuck.before ≡ place
  pub same_order : order ≡ c.order
  pub same_names : names ≡ c.names

-- on a way from a case the move at a place is not met, and this came
pub record IsRefutedFrom (setting : Setting) (moves : List Moving) (place : ℕ) (order : List ℕ) (names : List Named) (came : Came) (c : Reached) : Type 0 where
  pub state : State
  pub numbers : List (Option ℕ)
  pub more : List ℕ
  pub way : IsOnWay setting c.names c.state moves numbers more state
  pub refuted : IsRefuted setting c.names state moves numbers came
  pub at : refuted.place ≡ place
  pub same_order : order ≡ c.order ++ more
  pub same_names : names ≡ c.names

-- those before a place are met on each way from a case, and all can be submitted
abbrev pub HoldsToFrom : Setting → List Moving → (place : ℕ) → Reached → Type 0
HoldsToFrom setting moves place c = HoldsTo setting c.names c.state moves place

-- a case after an interleave that another begins with
pub record IsBehind (setting : Setting) (moves : List Moving) (c end : Reached) : Type 0 where
  pub numbers : List (Option ℕ)
  pub more : List ℕ
  pub bound : List Named
  pub way : IsOnWay setting c.names c.state moves numbers more end.state
  pub ended : IsEnd end.state
  pub met : CallsAreMet setting c.names end.state moves numbers bound
  pub names : end.names ≡ c.names ++ bound
  pub order : end.order ≡ c.order ++ more

-- the state and the names are those of a case
abbrev pub HasCase : List Reached → State → List Named → Type 0
HasCase cases s names = Any (λ c. (c.state ≡ s) × (c.names ≡ names)) cases

-- all holds of an interleave that a case begins with, and each end is among these
pub record HoldsFrom (setting : Setting) (moves : List Moving) (longest : ℕ) (ends : List Reached) (c : Reached) : Type 0 where
  pub begins : CanBegin setting c.names c.state moves
  pub queries : QueriesHold setting c.names c.state moves
  pub calls : CallsHold setting c.names c.state moves
  pub within : EndsWithin setting longest c.names c.state moves
  pub met : (numbers : List (Option ℕ)) (more : List ℕ) (t : State) (bound : List Named) → IsOnWay setting c.names c.state moves numbers more t → IsEnd t
      → CallsAreMet setting c.names t moves numbers bound → HasCase ends t (c.names ++ bound)

-- more cases than that can be met in an interleave that begins with these
pub record HasMore (setting : Setting) (moves : List Moving) (most : ℕ) (cases : List Reached) : Type 0 where
  pub meanings : List Meaning
  pub apart : AreApart meanings
  pub starts : List (ℕ × State)
  pub begun : AreBegun setting moves meanings cases starts
  pub more : IsMore (worlds setting.charge.limit setting.charge.price) starts most

-- what comes of an interleave in which nothing fails
pub record Leads (setting : Setting) (moves : List Moving) (most : ℕ) (cases ends : List Reached) (all : Bool) : Type 0 where
  pub sound : All (λ end. Any (λ c. IsBehind setting moves c end) cases) ends
  pub complete : OnTrue all ((longest : ℕ) × All (HoldsFrom setting moves longest ends) cases)
  pub more : OnFalse all (HasMore setting moves most cases)

-- ---- cases that are met in an interleave

-- a state, what names stand for in it and how moves were accepted, and the deliveries that led there
pub record Stage : Type 0 where
  pub state : State
  pub meaning : Meaning
  pub order : List ℕ

abbrev pub order_of : Option Case → List ℕ
order_of None = []
order_of (Some c) = c.order.items

abbrev pub order_at : List Case → (place : ℕ) → List ℕ
order_at cases place = order_of (slice_get cases place)

-- the stage of a case that is met after one of these
abbrev pub stage : Tables → List Case → Met NamedWorld → Stage
stage t cases m = record {
  state = state_at t.keeper m.kept.kept;
  meaning = meaning_at t.meanings m.kept.names;
  order = order_at cases m.start ++ m.order.items;
}

abbrev pub all_stages : Tables → List Case → List (Met NamedWorld) → List Stage
all_stages t cases met = map (stage t cases) met

-- the tables keep it, and of each move how it was accepted
pub record IsMetBehind (t : Tables) (moves : List Moving) (m : Met NamedWorld) : Type 0 where
  pub kept : IsKept t.keeper m.kept.kept
  pub known : m.kept.names < length t.meanings
  pub accepted : length moves ≤ length (meaning_at t.meanings m.kept.names).1

abbrev pub AreMetBehind : Tables → List Moving → List (Met NamedWorld) → Type 0
AreMetBehind t moves met = AllByRecursion (IsMetBehind t moves) met

-- it is an end, and its calls are met: the case after it
pub record IsEndOf (setting : Setting) (moves : List Moving) (g : Stage) (end : Reached) : Type 0 where
  pub bound : List Named
  pub state : end.state ≡ g.state
  pub ended : IsEnd g.state
  pub met : CallsAreMet setting g.meaning.0 g.state moves (take (length moves) g.meaning.1) bound
  pub names : end.names ≡ g.meaning.0 ++ bound
  pub order : end.order ≡ g.order

-- all that is expected in it is met
pub record HoldsIn (setting : Setting) (moves : List Moving) (ends : List Reached) (g : Stage) : Type 0 where
  pub queries : QueriesAreMet setting g.meaning.0 g.state moves
  pub calls : IsEnd g.state → Any (IsEndOf setting moves g) ends

-- the moves before a place are met in it
pub record FrontHolds (setting : Setting) (moves : List Moving) (place : ℕ) (g : Stage) : Type 0 where
  pub queries : QueriesAreMet setting g.meaning.0 g.state (take place moves)
  pub calls : IsEnd g.state → (bound : List Named) × CallsAreMet setting g.meaning.0 g.state (take place moves) (take place g.meaning.1) bound

-- the move at a place is not met in it
pub record IsRefutedIn (setting : Setting) (moves : List Moving) (place : ℕ) (order : List ℕ) (names : List Named) (came : Came) (g : Stage) : Type 0 where
  pub refuted : IsRefuted setting g.meaning.0 g.state moves g.meaning.1 came
  pub at : refuted.place ≡ place
  pub same_order : order ≡ g.order
  pub same_names : names ≡ g.meaning.0

-- what is judged, where nothing fails
pub record AreJudged (setting : Setting) (moves : List Moving) (stages : List Stage) (ends : List Reached) : Type 0 where
  pub sound : All (λ end. Any (λ g. IsEndOf setting moves g end) stages) ends
  pub holds : All (HoldsIn setting moves ends) stages
