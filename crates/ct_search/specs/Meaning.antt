-- What a system is: its states, the moves that each has, and which states count as one. No standard has this.
use Rattle.std.specs.Prelude.{◌≡◌, ℕ, List, [], ◌∷◌}
use Rattle.std.specs.List.{Contains}

-- the places of a state at which it may move, in the order in which they are tried; the state after a move; which states
-- count as one; and a number that differs only where they do not
pub record Meaning (S : Type 0) : Type 1 where
  pub moves : S → List ℕ
  pub next : S → (place : ℕ) → S
  pub Same : S → S → Type 0
  pub key : S → ℕ

-- it may move at that place
abbrev pub May : {S : Type 0} → Meaning S → S → (place : ℕ) → Type 0
May m s place = Contains (m.moves s) place

-- t has a move that leads where the move of s leads
abbrev pub Matches : {S : Type 0} → Meaning S → (s t : S) → (place : ℕ) → Type 0
Matches m s t place = (other : ℕ) × May m t other × m.Same (m.next s place) (m.next t other)

-- to count as one is an equivalence, and such states move alike
pub record Lawful {S : Type 0} (m : Meaning S) : Type 0 where
  pub reflexive : (s : S) → m.Same s s
  pub symmetric : (s t : S) → m.Same s t → m.Same t s
  pub transitive : (s t u : S) → m.Same s t → m.Same t u → m.Same s u
  pub matched : (s t : S) (place : ℕ) → m.Same s t → May m s place → Matches m s t place
  pub keyed : (s t : S) → m.Same s t → m.key s ≡ m.key t

-- ---- orders

-- the state after the moves at these places
abbrev pub along : {S : Type 0} → Meaning S → S → (order : List ℕ) → S
along m s [] = s
along m s (place ∷ places) = along m (m.next s place) places

-- each move may be made in its turn
abbrev pub IsAllowed : {S : Type 0} → Meaning S → S → (order : List ℕ) → Type 0
IsAllowed m s [] = Unit {0}
IsAllowed m s (place ∷ places) = May m s place × IsAllowed m (m.next s place) places
