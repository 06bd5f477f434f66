-- What was kept stands for what it stood for, while more is kept.
use Rattle.std.proofs.Common.{◌≡◌, ℕ, ◌<◌, zero, suc, List, [], ◌∷◌, ◌++◌, length, get_or, map, refl, sym, ap, ap₂, ◌∙◌, subst, arith}
use Rattle.std.specs.List.{Any, AllByRecursion}
use Rattle.std.proofs.lemmas.List.{map-append}
use Rattle.std.proofs.lemmas.List.Quantifiers.{Any-push}
use Rattle.std.proofs.lemmas.List.Elements.{All-push}
use Rattle.ct_search.specs.declared.case.Case.{Case}
use Rattle.ct_search.specs.Meaning.{Meaning}
use Rattle.ct_search.specs.Search.{Stays, seen, all_seen, AreHeld, IsAfter, AreAfter, HaveMoves}
use Rattle.ct_search.proofs.Lists.{any_longer}

module _ {Q K S : Type 0} (Holds : Q → K → Type 0) (state : Q → K → S) where
  pub stays_further : (a b c : Q) → Stays Holds state a b → Stays Holds state b c → Stays Holds state a c
  stays_further a b c first then k held =
      let here = first k held in
      let there = then k here.0 in
      (there.0, there.1 ∙ here.1)

  pub seen_stays : (a b : Q) → Stays Holds state a b → (c : Case K) → Holds a c.kept → seen state b c ≡ seen state a c
  seen_stays a b stays c held = ap (λ (s : S). let d : Case S = record { kept = s; key = c.key; start = c.start; order = c.order } in d) (stays c.kept held).1

  pub all_seen_stay : (a b : Q) → Stays Holds state a b → (cases : List (Case K)) → AreHeld Holds a cases → all_seen state b cases ≡ all_seen state a cases
  all_seen_stay a b stays [] held = refl
  all_seen_stay a b stays (c ∷ cases) held = ap₂ (λ x xs. x ∷ xs) (seen_stays a b stays c held.0) (all_seen_stay a b stays cases held.1)

  pub held_stay : (a b : Q) → Stays Holds state a b → (cases : List (Case K)) → AreHeld Holds a cases → AreHeld Holds b cases
  held_stay a b stays [] held = tt
  held_stay a b stays (c ∷ cases) held = ((stays c.kept held.0).0, held_stay a b stays cases held.1)

  pub held_push : (q : Q) (cases : List (Case K)) (c : Case K) → AreHeld Holds q cases → Holds q c.kept → AreHeld Holds q (cases ++ c ∷ [])
  held_push q [] c held here = (here, tt)
  held_push q (d ∷ cases) c held here = (held.0, held_push q cases c held.1 here)

  pub held_at : (q : Q) (cases : List (Case K)) → AreHeld Holds q cases → (k : ℕ) (d : Case K) → k < length cases → Holds q (get_or cases k d).kept
  held_at q [] held k d lt = absurd (omega (arith, lt))
  held_at q (c ∷ cases) held zero d lt = held.0
  held_at q (c ∷ cases) held (suc k) d lt = held_at q cases held.1 k d (omega (arith, lt))

  pub starts_stay : (a b : Q) → Stays Holds state a b → (ks : List K) → AllByRecursion (Holds a) ks → map (state b) ks ≡ map (state a) ks
  starts_stay a b stays [] held = refl
  starts_stay a b stays (k ∷ ks) held = ap₂ (λ x xs. x ∷ xs) (stays k held.0).1 (starts_stay a b stays ks held.1)

  -- ---- the cases after each move of one, one after another

  pub record FoundSoFar (m : Meaning S) (a b : Q) (c : Case K) (places : List ℕ) (found : List (Case K)) : Type 0 where
    pub stays : Stays Holds state a b
    pub held : AreHeld Holds b found
    pub moves : HaveMoves m (state a c.kept) places (all_seen state b found)
    pub after : AreAfter m (seen state a c) (all_seen state b found)

  module _ (m : Meaning S) (a b d : Q) (c after : Case K) (place : ℕ) (places : List ℕ) (found : List (Case K)) where
    pub found_more : Holds a c.kept → FoundSoFar m a b c places found → Stays Holds state b d → Holds d after.kept → IsAfter m (seen state b c) place (seen state d after)
        → FoundSoFar m a d c (places ++ place ∷ []) (found ++ after ∷ [])
    found_more held so_far stays here is =
        let whole : all_seen state d (found ++ after ∷ []) ≡ all_seen state b found ++ seen state d after ∷ [] =
        map-append (seen state d) found (after ∷ []) ∙ ap (λ l. l ++ seen state d after ∷ []) (all_seen_stay b d stays found so_far.held) in
        let one : IsAfter m (seen state a c) place (seen state d after) = subst (λ x. IsAfter m x place (seen state d after)) (seen_stays a b so_far.stays c held) is in
        record {
          stays = stays_further a b d so_far.stays stays;
          held = held_push d found after (held_stay b d stays found so_far.held) here;
          moves =
              subst (HaveMoves m (state a c.kept) (places ++ place ∷ [])) (sym whole)
              (All-push (λ p. Any (λ (x : Case S). x.kept ≡ m.next (state a c.kept) p) (all_seen state b found ++ seen state d after ∷ [])) places place
              (λ k e lt. any_longer (λ (x : Case S). x.kept ≡ m.next (state a c.kept) (get_or places k e)) (all_seen state b found) (seen state d after ∷ []) (so_far.moves k e lt))
              (Any-push (λ (x : Case S). x.kept ≡ m.next (state a c.kept) place) (all_seen state b found) (seen state d after) one.state));
          after =
              subst (AreAfter m (seen state a c)) (sym whole)
              (All-push (λ x. (p : ℕ) × IsAfter m (seen state a c) p x) (all_seen state b found) (seen state d after) so_far.after (place, one));
        }
