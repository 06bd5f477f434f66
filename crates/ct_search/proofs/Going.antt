-- A search on its way.
use Rattle.std.proofs.Common.{◌≡◌, ℕ, zero, suc, ◌+◌, ◌<◌, ◌≤◌, true, false, List, [], ◌∷◌, length, get_or, refl, sym, ap, ◌∙◌, subst, arith}
use Rattle.std.specs.Prelude.{All}
use Rattle.std.proofs.lemmas.List.{length-map}
use Rattle.ct_search.specs.declared.case.Case.{Case}
use Rattle.ct_search.specs.Meaning.{Meaning, Lawful}
use Rattle.ct_search.specs.Visits.{IsVisit, AreMet, Tells}
use Rattle.ct_search.specs.Search.{Stays, seen, all_seen, AreHeld, AreKeyed, AreAfter, HaveMoves, AreStarts, AreClosed, HaveVisited}
use Rattle.ct_search.proofs.Lists.{all_of_map}
use Rattle.ct_search.proofs.Keeping.{stays_further, all_seen_stay, held_at}
use Rattle.ct_search.proofs.Orders.{visits_after}
use Rattle.ct_search.proofs.Further.{longer_length, has_longer}
use Rattle.ct_search.proofs.Complete.{IsBegun, begun, starts_visits, closed_found, closed_more, complete}

module _ {Q K S : Type 0} (Holds : Q → K → Type 0) (state : Q → K → S) (m : Meaning S) (starts : List S) (most : ℕ) where
  -- a is the keeper at the start
  pub record Going (a q : Q) (cases : List (Case K)) (next : ℕ) : Type 0 where
    pub stays : Stays Holds state a q
    pub held : AreHeld Holds q cases
    pub keyed : AreKeyed m (all_seen state q cases)
    pub met : AreMet m starts (all_seen state q cases)
    pub closed : AreClosed m (all_seen state q cases) next
    pub begun : IsBegun m starts (all_seen state q cases)
    pub few : length cases ≤ most
    pub within : next ≤ length cases

  pub nothing_met : AreMet m starts []
  nothing_met = record { visits = λ k d lt. absurd (omega (arith, lt)); different = λ i j d less lt. absurd (omega (arith, lt)) }

  -- ---- the starts

  module _ (q : Q) (first : List (Case S)) (new : List (Case K)) (are : AreStarts m 0 starts first) where
    pub first_goes : HaveVisited m most [] first true (all_seen state q new) → AreHeld Holds q new → Going q q new 0
    first_goes visited held = record {
      stays = λ k is. (is, refl);
      held = held;
      keyed = visited.keyed;
      met = visited.met starts nothing_met (starts_visits m [] starts first are);
      closed = λ k d lt. absurd (omega (arith, lt));
      begun = begun m 0 starts first (all_seen state q new) are visited.found;
      few = omega (arith, visited.few, length-map new (seen state q));
      within = omega arith;
    }

    pub first_ends : HaveVisited m most [] first false (all_seen state q new) → Tells m starts most (all_seen state q new) false
    first_ends visited = record {
      met = visited.met starts nothing_met (starts_visits m [] starts first are);
      few = visited.few;
      complete = tt;
      more = visited.more starts nothing_met (starts_visits m [] starts first are);
    }

  -- ---- one case more

  seen_at : (q : Q) (cases : List (Case K)) (k : ℕ) (d : Case K) → k < length cases → get_or (all_seen state q cases) k (seen state q d) ≡ seen state q (get_or cases k d)
  seen_at q [] k d lt = absurd (omega (arith, lt))
  seen_at q (c ∷ cases) zero d lt = refl
  seen_at q (c ∷ cases) (suc k) d lt = seen_at q cases k d (omega (arith, lt))

  module _ (laws : Lawful m) (a q r : Q) (cases : List (Case K)) (next : ℕ) (c : Case K) (going : Going a q cases next) (lt : next < length cases) (is : c ≡ get_or cases next c) (stays : Stays Holds state q r) where
    abbrev L : List (Case K) → List (Case S)
    L = all_seen state r

    pub case_held : Holds q c.kept
    case_held = subst (λ x. Holds q x.kept) (sym is) (held_at Holds state q cases going.held next c lt)

    case_visit : IsVisit m starts (seen state q c)
    case_visit = subst (λ x. IsVisit m starts (seen state q x)) (sym is) (all_of_map (IsVisit m starts) (seen state q) cases going.met.visits next c lt)

    pub seen_anew : L cases ≡ all_seen state q cases
    seen_anew = all_seen_stay Holds state q r stays cases going.held

    module _ (found new : List (Case K)) (after : AreAfter m (seen state q c) (L found)) where
      found_visits : All (IsVisit m starts) (L found)
      found_visits = visits_after m starts (seen state q c) (L found) case_visit after

      pub goes_on : HaveMoves m (state q c.kept) (m.moves (state q c.kept)) (L found) → HaveVisited m most (L cases) (L found) true (L new) → AreHeld Holds r new → Going a r new (next + 1)
      goes_on moves told held =
          let visited : HaveVisited m most (all_seen state q cases) (L found) true (L new) = subst (λ l. HaveVisited m most l (L found) true (L new)) seen_anew told in
          let long = longer_length m (all_seen state q cases) (L new) visited.longer in
          record {
            stays = stays_further Holds state a q r going.stays stays;
            held = held;
            keyed = visited.keyed;
            met = visited.met starts going.met found_visits;
            closed =
                closed_more m laws (all_seen state q cases) (L new) next (seen state q c)
                (omega (arith, lt, length-map cases (seen state q)))
                (ap (seen state q) is ∙ sym (seen_at q cases next c lt))
                visited.longer going.closed (closed_found m laws (seen state q c) (L found) (L new) moves after visited.found);
            begun = λ k from at. has_longer m from 0 (all_seen state q cases) (L new) visited.longer (going.begun k from at);
            few = omega (arith, visited.few, length-map new (seen state r));
            within = omega (arith, lt, long, length-map cases (seen state q), length-map new (seen state r));
          }

      pub ends_here : HaveVisited m most (L cases) (L found) false (L new) → Tells m starts most (L new) false
      ends_here told =
          let visited : HaveVisited m most (all_seen state q cases) (L found) false (L new) = subst (λ l. HaveVisited m most l (L found) false (L new)) seen_anew told in
          record {
            met = visited.met starts going.met found_visits;
            few = visited.few;
            complete = tt;
            more = visited.more starts going.met found_visits;
          }

  -- ---- all

  pub all_done : Lawful m → (a q : Q) (cases : List (Case K)) (next : ℕ) → Going a q cases next → length cases ≤ next → Tells m starts most (all_seen state q cases) true
  all_done laws a q cases next going past = record {
    met = going.met;
    few = omega (arith, going.few, length-map cases (seen state q));
    complete = complete m laws (all_seen state q cases) (λ k d lt. going.closed k d (omega (arith, lt, past, length-map cases (seen state q)))) starts going.begun;
    more = tt;
  }
