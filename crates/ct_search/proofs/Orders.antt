-- Whole orders.
use Rattle.std.proofs.Common.{◌≡◌, ℕ, List, [], ◌∷◌, ◌++◌, Some, refl, sym, ap, ◌∙◌, subst}
use Rattle.std.specs.Prelude.{All, slice_get}
use Rattle.ct_search.specs.declared.case.Case.{Case}
use Rattle.ct_search.specs.Meaning.{Meaning, May, along, IsAllowed}
use Rattle.ct_search.specs.Visits.{IsVisit}
use Rattle.ct_search.specs.Search.{AreKeyed, IsAfter, AreAfter}

module _ {S : Type 0} (m : Meaning S) where
  along_more : (s : S) (order : List ℕ) (place : ℕ) → along m s (order ++ place ∷ []) ≡ m.next (along m s order) place
  along_more s [] place = refl
  along_more s (p ∷ ps) place = along_more (m.next s p) ps place

  allowed_more : (s : S) (order : List ℕ) (place : ℕ) → IsAllowed m s order → May m (along m s order) place → IsAllowed m s (order ++ place ∷ [])
  allowed_more s [] place allowed may = (may, tt)
  allowed_more s (p ∷ ps) place allowed may = (allowed.0, allowed_more (m.next s p) ps place allowed.1 may)

  pub visit_after : (starts : List S) (c after : Case S) (place : ℕ) → IsVisit m starts c → IsAfter m c place after → IsVisit m starts after
  visit_after starts c after place visit is = record {
    from = visit.from;
    is = subst (λ k. slice_get starts k ≡ Some visit.from) (sym is.start) visit.is;
    allowed =
        subst (IsAllowed m visit.from) (sym is.order)
        (allowed_more visit.from c.order.items place visit.allowed (subst (λ s. May m s place) (sym visit.leads) is.may));
    leads =
        ap (along m visit.from) is.order ∙ along_more visit.from c.order.items place ∙ ap (λ s. m.next s place) visit.leads ∙ sym is.state;
  }

  pub visits_after : (starts : List S) (c : Case S) (found : List (Case S)) → IsVisit m starts c → AreAfter m c found → All (IsVisit m starts) found
  visits_after starts c found visit all k d lt = let one = all k d lt in visit_after starts c _ one.0 visit one.1

  pub keyed_after : (c : Case S) (found : List (Case S)) → AreAfter m c found → AreKeyed m found
  keyed_after c found all k d lt = let one = all k d lt in one.1.key
