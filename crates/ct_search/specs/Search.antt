-- What a search keeps on its way. Cases are seen with their states in place of what is kept of these.
use Rattle.std.specs.Prelude.{◌≡◌, ℕ, ◌+◌, ◌<◌, ◌≤◌, ◌++◌, ◌∷◌, [], Bool, List, length, map, All, MatchOption, slice_get, slice_index_or}
use Rattle.std.specs.Bool.{OnTrue, OnFalse}
use Rattle.std.specs.List.{Any, AllByRecursion}
use Rattle.ct_search.specs.declared.case.Case.{Case}
use Rattle.ct_search.specs.Meaning.{Meaning, May}
use Rattle.ct_search.specs.Visits.{IsVisit, HasSame, AreMet, IsMore}

-- ---- what is kept

-- what was kept stands for what it stood for
abbrev pub Stays : {Q K S : Type 0} → (Q → K → Type 0) → (Q → K → S) → (old new : Q) → Type 0
Stays {Q} {K} {S} Holds state old new = (k : K) → Holds old k → Holds new k × (state new k ≡ state old k)

-- it stands for this state
abbrev pub StandsFor : {Q K S : Type 0} → (Q → K → Type 0) → (Q → K → S) → Q → K → S → Type 0
StandsFor Holds state q k s = Holds q k × (state q k ≡ s)

abbrev pub seen : {Q K S : Type 0} → (Q → K → S) → Q → Case K → Case S
seen state q c = record { kept = state q c.kept; key = c.key; start = c.start; order = c.order }

abbrev pub all_seen : {Q K S : Type 0} → (Q → K → S) → Q → List (Case K) → List (Case S)
all_seen state q cases = map (seen state q) cases

abbrev pub AreHeld : {Q K : Type 0} → (Q → K → Type 0) → Q → List (Case K) → Type 0
AreHeld Holds q cases = AllByRecursion (λ c. Holds q c.kept) cases

-- ---- cases

-- each key is that of the state
abbrev pub AreKeyed : {S : Type 0} → Meaning S → List (Case S) → Type 0
AreKeyed m cases = All (λ c. c.key ≡ m.key c.kept) cases

-- the case after one move
pub record IsAfter {S : Type 0} (m : Meaning S) (c : Case S) (place : ℕ) (after : Case S) : Type 0 where
  pub may : May m c.kept place
  pub state : after.kept ≡ m.next c.kept place
  pub key : after.key ≡ m.key after.kept
  pub start : after.start ≡ c.start
  pub order : after.order.items ≡ c.order.items ++ place ∷ []

abbrev pub AreAfter : {S : Type 0} → Meaning S → Case S → List (Case S) → Type 0
AreAfter m c found = All (λ after. (place : ℕ) × IsAfter m c place after) found

-- the moves at these places lead to the states of these
abbrev pub HaveMoves : {S : Type 0} → Meaning S → S → (places : List ℕ) → List (Case S) → Type 0
HaveMoves m s places found = All (λ place. Any (λ after. after.kept ≡ m.next s place) found) places

-- each of these is one of those
abbrev pub AreFound : {S : Type 0} → Meaning S → List (Case S) → List (Case S) → Type 0
AreFound m some cases = All (λ c. HasSame m c.kept (length c.order.items) cases) some

-- the moves of the case lead to the states of these
abbrev pub IsClosed : {S : Type 0} → Meaning S → List (Case S) → Case S → Type 0
IsClosed m cases c = (place : ℕ) → May m c.kept place → HasSame m (m.next c.kept place) (length c.order.items + 1) cases

-- so do the moves of the first `count` cases
abbrev pub AreClosed : {S : Type 0} → Meaning S → List (Case S) → (count : ℕ) → Type 0
AreClosed {S} m cases count = (k : ℕ) (d : Case S) → k < count → IsClosed m cases (slice_index_or cases k d)

-- what was there is there in its place
abbrev pub IsLonger : {X : Type 0} → List X → List X → Type 0
IsLonger {X} old new = (more : List X) × (new ≡ old ++ more)

-- the case was put after the others, unless it is one of them; if there was no room, there are more
pub record HasVisited {S : Type 0} (m : Meaning S) (most : ℕ) (old : List (Case S)) (c : Case S) (room : Bool) (new : List (Case S)) : Type 0 where
  pub keyed : AreKeyed m new
  pub longer : IsLonger old new
  pub few : length new ≤ most
  pub met : (starts : List S) → AreMet m starts old → IsVisit m starts c → AreMet m starts new
  pub found : OnTrue room (HasSame m c.kept (length c.order.items) new)
  pub more : OnFalse room ((starts : List S) → AreMet m starts old → IsVisit m starts c → IsMore m starts most)

pub record HaveVisited {S : Type 0} (m : Meaning S) (most : ℕ) (old some : List (Case S)) (room : Bool) (new : List (Case S)) : Type 0 where
  pub keyed : AreKeyed m new
  pub longer : IsLonger old new
  pub few : length new ≤ most
  pub met : (starts : List S) → AreMet m starts old → All (IsVisit m starts) some → AreMet m starts new
  pub found : OnTrue room (AreFound m some new)
  pub more : OnFalse room ((starts : List S) → AreMet m starts old → All (IsVisit m starts) some → IsMore m starts most)

-- ---- depth first

-- each is a move of a case: its place, and that of the move
abbrev pub AreMoves : {S : Type 0} → Meaning S → List (Case S) → List (ℕ × ℕ) → Type 0
AreMoves m cases moves = All (λ (move : ℕ × ℕ). MatchOption (slice_get cases move.0) ⊥ (λ c. May m c.kept move.1)) moves

-- more cases were met by moves of those that were met
pub record GoesDown {Q K S : Type 0} (Holds : Q → K → Type 0) (state : Q → K → S) (m : Meaning S) (most : ℕ) (a b : Q) (old new : List (Case K)) : Type 0 where
  pub stays : Stays Holds state a b
  pub held : AreHeld Holds b new
  pub keyed : AreKeyed m (all_seen state b new)
  pub longer : IsLonger (all_seen state a old) (all_seen state b new)
  pub few : length new ≤ most
  pub met : (starts : List S) → AreMet m starts (all_seen state a old) → AreMet m starts (all_seen state b new)

-- ---- starts

-- of each start the case without moves
pub record IsStart {S : Type 0} (m : Meaning S) (k : ℕ) (s : S) (c : Case S) : Type 0 where
  pub state : c.kept ≡ s
  pub key : c.key ≡ m.key s
  pub start : c.start ≡ k
  pub order : c.order.items ≡ []

-- numbered from k on
abbrev pub AreStarts : {S : Type 0} → Meaning S → (k : ℕ) → (starts : List S) → List (Case S) → Type 0
AreStarts m k [] [] = Unit {0}
AreStarts m k (s ∷ starts) (c ∷ cases) = IsStart m k s c × AreStarts m (k + 1) starts cases
AreStarts m k starts cases = ⊥
