-- A search that goes down.
use Rattle.std.proofs.Common.{◌≡◌, ℕ, zero, suc, ◌<◌, ◌≤◌, Bool, List, [], ◌∷◌, ◌++◌, length, get_or, map, refl, sym, ap, ◌∙◌, subst, arith}
use Rattle.std.specs.Prelude.{All, MatchOption, slice_get}
use Rattle.std.proofs.lemmas.List.{length-map}
use Rattle.std.proofs.lemmas.List.Elements.{All-tail}
use Rattle.ct_search.specs.declared.case.Case.{Case}
use Rattle.ct_search.specs.Meaning.{Meaning, May}
use Rattle.ct_search.specs.Visits.{IsVisit, AreMet}
use Rattle.ct_search.specs.Search.{Stays, seen, all_seen, AreHeld, AreKeyed, IsAfter, AreStarts, IsLonger, HasVisited, AreMoves, GoesDown}
use Rattle.ct_search.proofs.Lists.{all_of_map, all_front, all_middle}
use Rattle.ct_search.proofs.Keeping.{stays_further, all_seen_stay, held_at, held_stay}
use Rattle.ct_search.proofs.Orders.{visit_after}
use Rattle.ct_search.proofs.Further.{longer_same, longer_further}
use Rattle.ct_search.proofs.Complete.{starts_keyed, starts_visits}
use Rattle.ct_search.proofs.Going.{nothing_met}

-- ---- what is said of an element stays while more come

module _ {X : Type 0} (P : X → Type 0) where
  there_still : (xs more : List X) (k : ℕ) → MatchOption (slice_get xs k) ⊥ P → MatchOption (slice_get (xs ++ more) k) ⊥ P
  there_still [] more k p = absurd p
  there_still (x ∷ xs) more zero p = p
  there_still (x ∷ xs) more (suc k) p = there_still xs more k p

  -- an element of a mapped list
  pub within_map : {Y : Type 0} (f : Y → X) (ys : List Y) (k : ℕ) → MatchOption (slice_get (map f ys) k) ⊥ P → k < length ys
  within_map f [] k p = absurd p
  within_map f (y ∷ ys) zero p = omega arith
  within_map f (y ∷ ys) (suc k) p = let rest : k < length ys = within_map f ys k p in omega (arith, rest)

  pub at_map : {Y : Type 0} (f : Y → X) (ys : List Y) (k : ℕ) (d : Y) → MatchOption (slice_get (map f ys) k) ⊥ P → P (f (get_or ys k d))
  at_map f [] k d p = absurd p
  at_map f (y ∷ ys) zero d p = p
  at_map f (y ∷ ys) (suc k) d p = at_map f ys k d p

  pub map_at : {Y : Type 0} (f : Y → X) (ys : List Y) (k : ℕ) (d : Y) → k < length ys → P (f (get_or ys k d)) → MatchOption (slice_get (map f ys) k) ⊥ P
  map_at f [] k d lt p = absurd (omega (arith, lt))
  map_at f (y ∷ ys) zero d lt p = p
  map_at f (y ∷ ys) (suc k) d lt p = map_at f ys k d (omega (arith, lt)) p

module _ {S : Type 0} (m : Meaning S) where
  pub moves_longer : (old new : List (Case S)) → IsLonger old new → (moves : List (ℕ × ℕ)) → AreMoves m old moves → AreMoves m new moves
  moves_longer old new longer moves all k d lt =
      let move : ℕ × ℕ = get_or moves k d in
      subst (λ l. MatchOption (slice_get l move.0) ⊥ (λ (c : Case S). May m c.kept move.1)) (sym longer.1) (there_still (λ (c : Case S). May m c.kept move.1) old longer.0 move.0 (all k d lt))

-- ---- one move more

module _ {Q K S : Type 0} (Holds : Q → K → Type 0) (state : Q → K → S) (m : Meaning S) (most : ℕ) where
  pub down_none : (q : Q) (cases : List (Case K)) → AreHeld Holds q cases → AreKeyed m (all_seen state q cases) → length cases ≤ most → GoesDown Holds state m most q q cases cases
  down_none q cases held keyed few = record {
    stays = λ k is. (is, refl);
    held = held;
    keyed = keyed;
    longer = longer_same m (all_seen state q cases);
    few = few;
    met = λ starts met. met;
  }

  pub down_further : (a b c : Q) (old mid new : List (Case K)) → GoesDown Holds state m most a b old mid → GoesDown Holds state m most b c mid new → GoesDown Holds state m most a c old new
  down_further a b c old mid new first then = record {
    stays = stays_further Holds state a b c first.stays then.stays;
    held = then.held;
    keyed = then.keyed;
    longer = longer_further m (all_seen state a old) (all_seen state b mid) (all_seen state c new) first.longer then.longer;
    few = then.few;
    met = λ starts met. then.met starts (first.met starts met);
  }

  -- of the case at a place a move was made, and the case after it was met
  pub down_one : (q r : Q) (cases new : List (Case K)) (k : ℕ) (c after : Case K) (place : ℕ) (room : Bool) → AreHeld Holds q cases → Stays Holds state q r
      → k < length cases → c ≡ get_or cases k c → IsAfter m (seen state q c) place (seen state r after)
      → HasVisited m most (all_seen state r cases) (seen state r after) room (all_seen state r new) → AreHeld Holds r new → GoesDown Holds state m most q r cases new
  down_one q r cases new k c after place room held stays lt is one told held' =
      let anew : all_seen state r cases ≡ all_seen state q cases = all_seen_stay Holds state q r stays cases held in
      let visited : HasVisited m most (all_seen state q cases) (seen state r after) room (all_seen state r new) = subst (λ l. HasVisited m most l (seen state r after) room (all_seen state r new)) anew told in
      record {
        stays = stays;
        held = held';
        keyed = visited.keyed;
        longer = visited.longer;
        few = omega (arith, visited.few, length-map new (seen state r));
        met = λ starts met.
            let from : IsVisit m starts (seen state q c) = subst (λ x. IsVisit m starts (seen state q x)) (sym is) (all_of_map (IsVisit m starts) (seen state q) cases met.visits k c lt) in
            visited.met starts met (visit_after m starts (seen state q c) (seen state r after) place from one);
      }

  -- the last of the moves was made
  pub down_more : (a q r : Q) (old cases new : List (Case K)) (moves rest : List (ℕ × ℕ)) (k place : ℕ) (c after : Case K) (room : Bool) → GoesDown Holds state m most a q old cases
      → AreMoves m (all_seen state q cases) moves → moves ≡ rest ++ (k, place) ∷ [] → k < length cases → c ≡ get_or cases k c → Stays Holds state q r → IsAfter m (seen state q c) place (seen state r after)
      → HasVisited m most (all_seen state r cases) (seen state r after) room (all_seen state r new) → AreHeld Holds r new → GoesDown Holds state m most a r old new × AreMoves m (all_seen state r new) rest
  down_more a q r old cases new moves rest k place c after room going all whole lt is stays one told held =
      let step = down_one q r cases new k c after place room going.held stays lt is one told held in
      let front : AreMoves m (all_seen state q cases) rest = all_front (λ (move : ℕ × ℕ). MatchOption (slice_get (all_seen state q cases) move.0) ⊥ (λ (x : Case S). May m x.kept move.1)) rest ((k, place) ∷ [])
      (subst (AreMoves m (all_seen state q cases)) whole all) in
      (down_further a q r old cases new going step, moves_longer m (all_seen state q cases) (all_seen state r new) step.longer rest front)

  -- the last of the moves is one of a case
  module _ (q : Q) (cases : List (Case K)) (moves rest : List (ℕ × ℕ)) (k place : ℕ) (all : AreMoves m (all_seen state q cases) moves) (whole : moves ≡ rest ++ (k, place) ∷ []) where
    last_move : MatchOption (slice_get (all_seen state q cases) k) ⊥ (λ (x : Case S). May m x.kept place)
    last_move =
        all_middle (λ (move : ℕ × ℕ). MatchOption (slice_get (all_seen state q cases) move.0) ⊥ (λ (x : Case S). May m x.kept move.1)) rest (k, place) [] (subst (AreMoves m (all_seen state q cases)) whole all)

    pub last_within : k < length cases
    last_within = within_map (λ (x : Case S). May m x.kept place) (seen state q) cases k last_move

    pub last_may : (d : Case K) → May m (state q (get_or cases k d).kept) place
    last_may d = at_map (λ (x : Case S). May m x.kept place) (seen state q) cases k d last_move

-- ---- from each start in turn

module _ {Q K S : Type 0} (Holds : Q → K → Type 0) (state : Q → K → S) (m : Meaning S) (starts : List S) (most : ℕ) where
  -- a is the keeper at the start, and `rest` the cases of the starts that come later
  pub record Dived (a q : Q) (cases rest : List (Case K)) : Type 0 where
    pub stays : Stays Holds state a q
    pub held : AreHeld Holds q cases
    pub keyed : AreKeyed m (all_seen state q cases)
    pub met : AreMet m starts (all_seen state q cases)
    pub few : length cases ≤ most
    pub rest_held : AreHeld Holds q rest
    pub rest_keyed : AreKeyed m (all_seen state q rest)
    pub rest_visits : All (IsVisit m starts) (all_seen state q rest)

  pub dived_none : (q : Q) (rest : List (Case K)) → AreHeld Holds q rest → AreStarts m 0 starts (all_seen state q rest) → Dived q q [] rest
  dived_none q rest held are = record {
    stays = λ k is. (is, refl);
    held = tt;
    keyed = λ k d lt. absurd (omega (arith, lt));
    met = nothing_met Holds state m starts most;
    few = omega arith;
    rest_held = held;
    rest_keyed = starts_keyed m 0 starts (all_seen state q rest) are;
    rest_visits = starts_visits m [] starts (all_seen state q rest) are;
  }

  pub dived_visit : (a q : Q) (cases new : List (Case K)) (c : Case K) (rest : List (Case K)) (room : Bool) → Dived a q cases (c ∷ rest)
      → HasVisited m most (all_seen state q cases) (seen state q c) room (all_seen state q new) → AreHeld Holds q new → Dived a q new rest
  dived_visit a q cases new c rest room dived visited held = record {
    stays = dived.stays;
    held = held;
    keyed = visited.keyed;
    met = visited.met starts dived.met (dived.rest_visits 0 (seen state q c) (omega arith));
    few = omega (arith, visited.few, length-map new (seen state q));
    rest_held = dived.rest_held.1;
    rest_keyed = All-tail (λ x. x.key ≡ m.key x.kept) (seen state q c) (all_seen state q rest) dived.rest_keyed;
    rest_visits = All-tail (IsVisit m starts) (seen state q c) (all_seen state q rest) dived.rest_visits;
  }

  pub dived_down : (a q r : Q) (cases new rest : List (Case K)) → Dived a q cases rest → GoesDown Holds state m most q r cases new → Dived a r new rest
  dived_down a q r cases new rest dived down =
      let anew : all_seen state r rest ≡ all_seen state q rest = all_seen_stay Holds state q r down.stays rest dived.rest_held in
      record {
        stays = stays_further Holds state a q r dived.stays down.stays;
        held = down.held;
        keyed = down.keyed;
        met = down.met starts dived.met;
        few = down.few;
        rest_held = held_stay Holds state q r down.stays rest dived.rest_held;
        rest_keyed = subst (AreKeyed m) (sym anew) dived.rest_keyed;
        rest_visits = subst (All (IsVisit m starts)) (sym anew) dived.rest_visits;
      }
