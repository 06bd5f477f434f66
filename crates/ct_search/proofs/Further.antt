-- Cases are put after others.
use Rattle.std.proofs.Common.{◌≡◌, ℕ, ◌<◌, ◌≤◌, true, false, List, [], ◌∷◌, ◌++◌, length, get_or, refl, sym, ap, ◌∙◌, subst, arith, append_assoc}
use Rattle.std.proofs.lemmas.List.{append-nil, length_push, length-append}
use Rattle.std.proofs.lemmas.List.Quantifiers.{all_pairs_push, Any-push}
use Rattle.std.proofs.lemmas.List.Elements.{All-push}
use Rattle.ct_search.specs.declared.case.Case.{Case}
use Rattle.ct_search.specs.Meaning.{Meaning}
use Rattle.ct_search.specs.Visits.{IsVisit, HasSame, AreOne, AreMet}
use Rattle.ct_search.specs.Search.{AreKeyed, AreFound, IsLonger, HasVisited, HaveVisited}
use Rattle.ct_search.proofs.Lists.{any_at, any_longer, all_front, all_middle}

module _ {S : Type 0} (m : Meaning S) where
  pub longer_same : (old : List (Case S)) → IsLonger old old
  longer_same old = ([], sym (append-nil old))

  pub longer_further : (old mid new : List (Case S)) → IsLonger old mid → IsLonger mid new → IsLonger old new
  longer_further old mid new a b = (a.0 ++ b.0, b.1 ∙ ap (λ l. l ++ b.0) a.1 ∙ append_assoc old a.0 b.0)

  pub longer_length : (old new : List (Case S)) → IsLonger old new → length old ≤ length new
  longer_length old new longer = omega (arith, length-append old longer.0, ap length longer.1)

  pub has_longer : (s : S) (n : ℕ) (old new : List (Case S)) → IsLonger old new → HasSame m s n old → HasSame m s n new
  has_longer s n old new longer has =
      subst (HasSame m s n) (sym longer.1) (any_longer (λ c. (length c.order.items ≡ n) × m.Same s c.kept) old longer.0 has)

  found_longer : (some old new : List (Case S)) → IsLonger old new → AreFound m some old → AreFound m some new
  found_longer some old new longer found k d lt = has_longer (get_or some k d).kept (length (get_or some k d).order.items) old new longer (found k d lt)

  -- ---- one case

  module _ (most : ℕ) (cases : List (Case S)) (c : Case S) (keyed : AreKeyed m cases) (key : c.key ≡ m.key c.kept) where
    pushed : (starts : List S) → ¬ HasSame m c.kept (length c.order.items) cases → AreMet m starts cases → IsVisit m starts c → AreMet m starts (cases ++ c ∷ [])
    pushed starts fresh met visit = record {
      visits = All-push (IsVisit m starts) cases c met.visits visit;
      different = all_pairs_push (λ a b. ¬ AreOne m b a) cases c met.different (λ k d lt one. fresh (any_at (λ e. AreOne m c e) cases k d lt one));
    }

    pub visited_same : HasSame m c.kept (length c.order.items) cases → length cases ≤ most → HasVisited m most cases c true cases
    visited_same has few = record {
      keyed = keyed;
      longer = longer_same cases;
      few = few;
      met = λ starts met visit. met;
      found = has;
      more = tt;
    }

    pub visited_full : ¬ HasSame m c.kept (length c.order.items) cases → length cases ≤ most → most ≤ length cases → HasVisited m most cases c false cases
    visited_full fresh few full = record {
      keyed = keyed;
      longer = longer_same cases;
      few = few;
      met = λ starts met visit. met;
      found = tt;
      more = λ starts met visit. record {
        cases = cases ++ c ∷ [];
        many = omega (arith, length_push cases c);
        met = pushed starts fresh met visit;
      };
    }

    pub visited_new : ¬ HasSame m c.kept (length c.order.items) cases → m.Same c.kept c.kept → length cases < most → HasVisited m most cases c true (cases ++ c ∷ [])
    visited_new fresh same room = record {
      keyed = All-push (λ e. e.key ≡ m.key e.kept) cases c keyed key;
      longer = (c ∷ [], refl);
      few = omega (arith, length_push cases c);
      met = λ starts met visit. pushed starts fresh met visit;
      found = Any-push (λ e. AreOne m c e) cases c (refl, same);
      more = tt;
    }

  -- ---- one case after others

  pub visited_none : (most : ℕ) (cases : List (Case S)) → AreKeyed m cases → length cases ≤ most → HaveVisited m most cases [] true cases
  visited_none most cases keyed few = record {
    keyed = keyed;
    longer = longer_same cases;
    few = few;
    met = λ starts met all. met;
    found = λ k d lt. absurd (omega (arith, lt));
    more = tt;
  }

  module _ (most : ℕ) (old some mid : List (Case S)) (c : Case S) (new : List (Case S)) (first : HaveVisited m most old some true mid) where
    pub visited_more : HasVisited m most mid c true new → HaveVisited m most old (some ++ c ∷ []) true new
    visited_more then = record {
      keyed = then.keyed;
      longer = longer_further old mid new first.longer then.longer;
      few = then.few;
      met = λ starts met all.
          then.met starts
          (first.met starts met (all_front (IsVisit m starts) some (c ∷ []) all))
          (all_middle (IsVisit m starts) some c [] all);
      found = All-push (λ e. HasSame m e.kept (length e.order.items) new) some c (found_longer some mid new then.longer first.found) then.found;
      more = tt;
    }

    pub visited_end : (rest : List (Case S)) → HasVisited m most mid c false new → HaveVisited m most old (some ++ c ∷ rest) false new
    visited_end rest then = record {
      keyed = then.keyed;
      longer = longer_further old mid new first.longer then.longer;
      few = then.few;
      met = λ starts met all.
          then.met starts
          (first.met starts met (all_front (IsVisit m starts) some (c ∷ rest) all))
          (all_middle (IsVisit m starts) some c rest all);
      found = tt;
      more = λ starts met all.
          then.more starts
          (first.met starts met (all_front (IsVisit m starts) some (c ∷ rest) all))
          (all_middle (IsVisit m starts) some c rest all);
    }
