-- A search is complete once the moves of each case were made.
use Rattle.std.proofs.Common.{◌≡◌, ℕ, zero, suc, ◌+◌, ◌<◌, List, [], ◌∷◌, ◌++◌, Some, length, get_or, refl, sym, ap, ◌∙◌, subst, arith, below_more, append_assoc}
use Rattle.std.specs.Prelude.{All, slice_get}
use Rattle.std.specs.List.{Any, Contains}
use Rattle.std.proofs.lemmas.List.{get_or_default, get_or_append_left, length-append}
use Rattle.std.proofs.lemmas.List.Elements.{All-contains, All-cons, All-tail}
use Rattle.std.proofs.lemmas.Option.{slice_get_within}
use Rattle.ct_search.specs.declared.case.Case.{Case}
use Rattle.ct_search.specs.Meaning.{Meaning, Lawful, May, along, IsAllowed}
use Rattle.ct_search.specs.Visits.{IsVisit, HasSame, IsComplete, IsEndOf}
use Rattle.ct_search.specs.Search.{IsStart, AreStarts, AreKeyed, HaveMoves, AreAfter, AreFound, IsClosed, AreClosed, IsLonger}
use Rattle.ct_search.proofs.Further.{has_longer}

-- each start is one of the cases
abbrev pub IsBegun : {S : Type 0} → Meaning S → (starts : List S) → List (Case S) → Type 0
IsBegun {S} m starts cases = (k : ℕ) (from : S) → slice_get starts k ≡ Some from → HasSame m from 0 cases

module _ {S : Type 0} (m : Meaning S) (laws : Lawful m) where
  has_through : (s t : S) (n : ℕ) (cases : List (Case S)) → m.Same s t → HasSame m t n cases → HasSame m s n cases
  has_through s t n cases same has = (has.0, has.1, has.2, has.3, (has.4.0, laws.transitive s t has.1.kept same has.4.1))

  -- ---- one more case is closed

  pub closed_found : (c : Case S) (found new : List (Case S)) → HaveMoves m c.kept (m.moves c.kept) found → AreAfter m c found → AreFound m found new → IsClosed m new c
  closed_found c found new moves after all place may =
      let h = All-contains (λ p. Any (λ (x : Case S). x.kept ≡ m.next c.kept p) found) (m.moves c.kept) place moves may in
      let one = after h.0 h.1 h.2 in
      let has : HasSame m h.1.kept (length h.1.order.items) new = subst (λ (x : Case S). HasSame m x.kept (length x.order.items) new) h.3 (all h.0 h.1 h.2) in
      let order : length h.1.order.items ≡ length c.order.items + 1 =
      ap (λ (x : Case S). length x.order.items) (sym h.3) ∙ ap length one.1.order ∙ length-append c.order.items (one.0 ∷ []) in
      subst (λ t. HasSame m t (length c.order.items + 1) new) h.4 (subst (λ n. HasSame m h.1.kept n new) order has)

  closed_longer : (c : Case S) (old new : List (Case S)) → IsLonger old new → IsClosed m old c → IsClosed m new c
  closed_longer c old new longer closed place may = has_longer m (m.next c.kept place) (length c.order.items + 1) old new longer (closed place may)

  kept_place : (old new : List (Case S)) → IsLonger old new → (k : ℕ) (d : Case S) → k < length old → get_or new k d ≡ get_or old k d
  kept_place old new longer k d lt = ap (λ l. get_or l k d) longer.1 ∙ get_or_append_left old longer.0 d k lt

  pub closed_more : (old new : List (Case S)) (count : ℕ) (c : Case S) → count < length old → c ≡ get_or old count c → IsLonger old new → AreClosed m old count → IsClosed m new c
      → AreClosed m new (count + 1)
  closed_more old new count c within is longer closed last k d lt =
      below_more (λ j. IsClosed m new (get_or new j d)) count
      (λ j less. subst (IsClosed m new) (sym (kept_place old new longer j d (omega arith))) (closed_longer (get_or old j d) old new longer (closed j d less)))
      (subst (IsClosed m new) (is ∙ get_or_default old count c d within ∙ sym (kept_place old new longer count d within)) last)
      k lt

  -- ---- all are closed

  module _ (cases : List (Case S)) (closed : AreClosed m cases (length cases)) where
    one_step : (s : S) (n place : ℕ) → HasSame m s n cases → May m s place → HasSame m (m.next s place) (n + 1) cases
    one_step s n place has may =
        let move = laws.matched s has.1.kept place has.4.1 may in
        let there : IsClosed m cases has.1 = subst (IsClosed m cases) has.3 (closed has.0 has.1 has.2) in
        has_through (m.next s place) (m.next has.1.kept move.0) (n + 1) cases move.2
        (subst (λ k. HasSame m (m.next has.1.kept move.0) (k + 1) cases) has.4.0 (there move.0 move.1))

    reached : (s : S) (n : ℕ) (order : List ℕ) → HasSame m s n cases → IsAllowed m s order → HasSame m (along m s order) (n + length order) cases
    reached s n [] has allowed = subst (λ k. HasSame m s k cases) (let same : n ≡ n + 0 = omega arith in same) has
    reached s n (place ∷ places) has allowed =
        subst (λ k. HasSame m (along m (m.next s place) places) k cases) (let same : n + 1 + length places ≡ n + length (place ∷ places) = omega arith in same)
        (reached (m.next s place) (n + 1) places (one_step s n place has allowed.0) allowed.1)

    pub complete : (starts : List S) → IsBegun m starts cases → IsComplete m starts cases
    complete starts begun k from is order allowed =
        subst (λ n. HasSame m (along m from order) n cases) (let same : 0 + length order ≡ length order = omega arith in same) (reached from 0 order (begun k from is) allowed)

-- ---- ends

module _ {S : Type 0} (m : Meaning S) (laws : Lawful m) where
  -- what counts as one with an end is one
  no_moves : (s t : S) → m.Same s t → m.moves s ≡ [] → (places : List ℕ) → m.moves t ≡ places → places ≡ []
  no_moves s t same none [] is = refl
  no_moves s t same none (p ∷ places) is =
      let may : May m t p = subst (λ ps. Contains ps p) (sym is) (0, omega arith, refl) in
      let move = laws.matched t s p (laws.symmetric s t same) may in
      let there : Contains [] move.0 = subst (λ ps. Contains ps move.0) none move.1 in
      let below : there.0 < 0 = there.1 in
      absurd (omega (arith, below))

  pub ends_met : (cases : List (Case S)) (starts : List S) → IsComplete m starts cases → (k : ℕ) (from : S) → slice_get starts k ≡ Some from → (order : List ℕ)
      → IsAllowed m from order → m.moves (along m from order) ≡ [] → Any (IsEndOf m from order) cases
  ends_met cases starts all k from is order allowed none =
      let has = all k from is order allowed in (
        has.0,
        has.1,
        has.2,
        has.3,
        record { moves = has.4.0; same = has.4.1; ended = no_moves (along m from order) has.1.kept has.4.1 none (m.moves has.1.kept) refl },
      )

-- ---- the starts

module _ {S : Type 0} (m : Meaning S) where
  pub starts_length : (k : ℕ) (starts : List S) (cases : List (Case S)) → AreStarts m k starts cases → length cases ≡ length starts
  starts_length k [] [] are = refl
  starts_length k (s ∷ starts) (c ∷ cases) are = omega (arith, starts_length (k + 1) starts cases are.1)
  starts_length k [] (c ∷ cases) are = absurd are
  starts_length k (s ∷ starts) [] are = absurd are

  pub starts_more : (k n : ℕ) (starts : List S) (cases : List (Case S)) (s : S) (c : Case S) → AreStarts m k starts cases → n ≡ k + length starts → IsStart m n s c
      → AreStarts m k (starts ++ s ∷ []) (cases ++ c ∷ [])
  starts_more k n [] [] s c are at is = (subst (λ j. IsStart m j s c) (let same : n ≡ k = omega (arith, at) in same) is, tt)
  starts_more k n (t ∷ starts) (d ∷ cases) s c are at is =
      (are.0, starts_more (k + 1) n starts cases s c are.1 (let same : n ≡ k + 1 + length starts = omega (arith, at) in same) is)
  starts_more k n [] (d ∷ cases) s c are at is = absurd are
  starts_more k n (t ∷ starts) [] s c are at is = absurd are

  pub starts_keyed : (k : ℕ) (starts : List S) (cases : List (Case S)) → AreStarts m k starts cases → AreKeyed m cases
  starts_keyed k [] [] are = λ j d lt. absurd (omega (arith, lt))
  starts_keyed k (s ∷ starts) (c ∷ cases) are =
      All-cons (λ x. x.key ≡ m.key x.kept) c cases (are.0.key ∙ sym (ap m.key are.0.state)) (starts_keyed (k + 1) starts cases are.1)
  starts_keyed k [] (c ∷ cases) are = absurd are
  starts_keyed k (s ∷ starts) [] are = absurd are

  get_middle : (front : List S) (s : S) (back : List S) → slice_get (front ++ s ∷ back) (length front) ≡ Some s
  get_middle [] s back = refl
  get_middle (x ∷ front) s back = get_middle front s back

  pub starts_visits : (front starts : List S) (cases : List (Case S)) → AreStarts m (length front) starts cases → All (IsVisit m (front ++ starts)) cases
  starts_visits front [] [] are = λ j d lt. absurd (omega (arith, lt))
  starts_visits front (s ∷ starts) (c ∷ cases) are =
      All-cons (IsVisit m (front ++ s ∷ starts)) c cases
      (record {
        from = s;
        is = ap (slice_get (front ++ s ∷ starts)) are.0.start ∙ get_middle front s starts;
        allowed = subst (IsAllowed m s) (sym are.0.order) tt;
        leads = ap (along m s) are.0.order ∙ sym are.0.state;
      })
      (subst (λ ss. All (IsVisit m ss) cases) (append_assoc front (s ∷ []) starts)
      (starts_visits (front ++ s ∷ []) starts cases (subst (λ n. AreStarts m n starts cases) (sym (length-append front (s ∷ []))) are.1)))
  starts_visits front [] (c ∷ cases) are = absurd are
  starts_visits front (s ∷ starts) [] are = absurd are

  pub begun : (k : ℕ) (starts : List S) (first cases : List (Case S)) → AreStarts m k starts first → AreFound m first cases → IsBegun m starts cases
  begun k [] [] cases are found j from is = absurd (omega (arith, slice_get_within [] j from is))
  begun k (s ∷ starts) (c ∷ first) cases are found zero from is =
      let same : s ≡ from = cc in
      subst (λ n. HasSame m from n cases) (ap length are.0.order)
      (subst (λ t. HasSame m t (length c.order.items) cases) (are.0.state ∙ same) (found 0 c (omega arith)))
  begun k (s ∷ starts) (c ∷ first) cases are found (suc j) from is =
      begun (k + 1) starts first cases are.1 (All-tail (λ x. HasSame m x.kept (length x.order.items) cases) c first found) j from is
  begun k [] (c ∷ first) cases are found j from is = absurd are
  begun k (s ∷ starts) [] cases are found j from is = absurd are
