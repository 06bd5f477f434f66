-- What a search has found. A case is a state with the order that leads to it; states that are met after different numbers of moves are two.
use Rattle.std.specs.Prelude.{◌≡◌, ℕ, ◌<◌, ◌≤◌, Bool, Some, List, [], length, All, slice_get}
use Rattle.std.specs.Bool.{OnTrue, OnFalse}
use Rattle.std.specs.List.{Any, AllPairs}
use Rattle.ct_search.specs.declared.case.Case.{Case}
use Rattle.ct_search.specs.Meaning.{Meaning, along, IsAllowed}

-- its order leads from its start to its state
pub record IsVisit {S : Type 0} (m : Meaning S) (starts : List S) (c : Case S) : Type 0 where
  pub from : S
  pub is : slice_get starts c.start ≡ Some from
  pub allowed : IsAllowed m from c.order.items
  pub leads : along m from c.order.items ≡ c.kept

-- after as many moves one of them has the same state
abbrev pub HasSame : {S : Type 0} → Meaning S → S → (moves : ℕ) → List (Case S) → Type 0
HasSame m s moves cases = Any (λ c. (length c.order.items ≡ moves) × m.Same s c.kept) cases

-- two that are one
abbrev pub AreOne : {S : Type 0} → Meaning S → Case S → Case S → Type 0
AreOne m c d = (length d.order.items ≡ length c.order.items) × m.Same c.kept d.kept

abbrev pub AreDifferent : {S : Type 0} → Meaning S → List (Case S) → Type 0
AreDifferent m cases = AllPairs (λ earlier later. ¬ AreOne m later earlier) cases

-- they were reached, and no two of them are one
pub record AreMet {S : Type 0} (m : Meaning S) (starts : List S) (cases : List (Case S)) : Type 0 where
  pub visits : All (IsVisit m starts) cases
  pub different : AreDifferent m cases

-- each state that an order reaches is the same as one of these, after as many moves
abbrev pub IsComplete : {S : Type 0} → Meaning S → (starts : List S) → List (Case S) → Type 0
IsComplete {S} m starts cases =
    (k : ℕ) (from : S) → slice_get starts k ≡ Some from → (order : List ℕ) → IsAllowed m from order
    → HasSame m (along m from order) (length order) cases

-- more cases than that can be met
pub record IsMore {S : Type 0} (m : Meaning S) (starts : List S) (most : ℕ) : Type 0 where
  pub cases : List (Case S)
  pub many : most < length cases
  pub met : AreMet m starts cases

-- all that can be met, or some of more
pub record Tells {S : Type 0} (m : Meaning S) (starts : List S) (most : ℕ) (cases : List (Case S)) (all : Bool) : Type 0 where
  pub met : AreMet m starts cases
  pub few : length cases ≤ most
  pub complete : OnTrue all (IsComplete m starts cases)
  pub more : OnFalse all (IsMore m starts most)

-- the end of an order: no move is left, and it counts as one with the state that the order reaches, after as many moves
pub record IsEndOf {S : Type 0} (m : Meaning S) (from : S) (order : List ℕ) (c : Case S) : Type 0 where
  pub moves : length c.order.items ≡ length order
  pub same : m.Same (along m from order) c.kept
  pub ended : m.moves c.kept ≡ []
