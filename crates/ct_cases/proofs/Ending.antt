-- What an interleave comes to: it leads on, or a move cannot be submitted, or one is not met.
use Rattle.std.proofs.Common.{◌≡◌, ℕ, Bool, true, List, [], Option, Some, None, refl, sym, subst, inl, inr}
use Rattle.std.specs.Prelude.{Result, Ok, Err, All, IfOk, OnOk}
use Rattle.std.specs.Bool.{OnTrue, OnFalse}
use Rattle.std.specs.List.{Any}
use Rattle.ic_behaviour.specs.State.{State}
use Rattle.ct_check.specs.Moving.{Moving}
use Rattle.ct_run.specs.Statements.{Setting}
use Rattle.ct_run.proofs.One.{MeetsOnce}
use Rattle.ct_search.specs.declared.case.Case.{Case as Met}
use Rattle.ct_search.specs.Visits.{IsVisit, IsComplete, IsMore}
use Rattle.ct_search.specs.Search.{all_seen}
use Rattle.ct_worlds.specs.declared.worlds.NamedWorld.{NamedWorld}
use Rattle.ct_worlds.specs.Worlds.{worlds, named_at}
use Rattle.ct_cases.specs.declared.case.Case.{Case}
use Rattle.ct_cases.specs.declared.case.Tables.{Tables}
use Rattle.ct_cases.specs.declared.interleaving.Interleaved.{Interleaved}
use Rattle.ct_cases.specs.declared.failing.Failing.{Failing}
use Rattle.ct_cases.specs.Meanings.{Meaning, AreApart}
use Rattle.ct_cases.specs.Reached.{Reached}
use Rattle.ct_cases.specs.Cases.{Grows, AreBegun, Begins, IsStuckIn, IsRefutedFrom, HoldsToFrom, HasMore, Leads, all_reached, all_stages}
use Rattle.ct_cases.specs.Answers.{AreStarted, AreFound, IsInterleaved}
use Rattle.ct_cases.proofs.Stays.{grows_further}
use Rattle.ct_cases.proofs.Reaching.{all_come, refuted_from, front_holds, has_more, leads}

module _ (setting : Setting) (most : ℕ) (moves : List Moving) (cases : List Case) where
  pub stuck : (old new later : Tables) (starts : List NamedWorld) (failing : Option Failing) → AreStarted setting old new cases moves starts failing → (failing ≡ None → ⊥)
      → IsInterleaved setting most old later cases moves [] failing true
  stuck old new later starts None started some = absurd (some refl)
  stuck old new later starts (Some f) started some = inl (started.0, started.1.0, started.1.1)

  module _ (meeting_once : MeetsOnce) (old t new : Tables) (meanings : List Meaning) (same : t.meanings ≡ meanings) (starts : List (ℕ × State)) (met : List (Met NamedWorld)) (ends : List Case)
      (begun : AreBegun setting moves meanings (all_reached old cases) starts) (apart : AreApart meanings)
      (visits : All (IsVisit (worlds setting.charge.limit setting.charge.price) starts) (all_seen named_at t.keeper met)) where
    begun_there : AreBegun setting moves t.meanings (all_reached old cases) starts
    begun_there = subst (λ (ms : List Meaning). AreBegun setting moves ms (all_reached old cases) starts) (sym same) begun

    pub interleaved : (failing : Option Failing) (all : Bool) → AreFound setting moves new (all_stages t cases met) ends failing
        → OnTrue all (IsComplete (worlds setting.charge.limit setting.charge.price) starts (all_seen named_at t.keeper met))
        → OnFalse all (IsMore (worlds setting.charge.limit setting.charge.price) starts most)
        → IsInterleaved setting most old new cases moves ends failing all
    interleaved None all found complete more = (
      found.0,
      leads setting moves most meeting_once old t cases starts met (all_reached new ends) begun_there visits found.1 all (subst AreApart (sym same) apart) complete more,
    )
    interleaved (Some f) all found complete more =
        inr (
          found.0,
          refuted_from setting moves (all_reached old cases) (all_stages t cases met) found.0 f.order.items f.names f.unmet.came
              (all_come setting moves old t cases starts begun_there met visits) found.1.0,
          front_holds setting moves most old t cases starts begun_there found.0 met found.1.1 all complete,
          has_more setting moves most old t cases starts begun_there all (subst AreApart (sym same) apart) more,
        )

-- the same of the cases as they were
pub as_they_were : (setting : Setting) (most : ℕ) (moves : List Moving) (cases ends : List Case) (old mid new : Tables) → all_reached mid cases ≡ all_reached old cases → (failing : Option Failing) (all : Bool)
    → IsInterleaved setting most mid new cases moves ends failing all → IsInterleaved setting most old new cases moves ends failing all
as_they_were setting most moves cases ends old mid new same None all is = (is.0, subst (λ (cs : List Reached). Leads setting moves most cs (all_reached new ends) all) same is.1)
as_they_were setting most moves cases ends old mid new same (Some f) all (inl (place, some, begins)) =
    inl (place, subst (Any (IsStuckIn setting moves place f.order.items f.names f.unmet.came)) same some, subst (All (Begins setting moves place)) same begins)
as_they_were setting most moves cases ends old mid new same (Some f) all (inr (place, some, complete, more)) =
    inr (
      place,
      subst (Any (IsRefutedFrom setting moves place f.order.items f.names f.unmet.came)) same some,
      subst (λ (cs : List Reached). OnTrue all (All (HoldsToFrom setting moves place) cs)) same complete,
      subst (λ (cs : List Reached). OnFalse all (HasMore setting moves most cs)) same more,
    )

pub all_as_they_were : {E : Type 0} (setting : Setting) (most : ℕ) (moves : List Moving) (cases : List Case) (old mid new : Tables) → all_reached mid cases ≡ all_reached old cases → (r : Result Interleaved E)
    → IfOk r (λ done. IsInterleaved setting most mid new cases moves done.cases.items done.failing done.all) → IfOk r (λ done. IsInterleaved setting most old new cases moves done.cases.items done.failing done.all)
all_as_they_were setting most moves cases old mid new same (Ok done) is = as_they_were setting most moves cases done.cases.items old mid new same done.failing done.all is
all_as_they_were setting most moves cases old mid new same (Err e) is = tt

pub ok_further : {A E : Type 0} (a b c : Tables) (r : Result A E) → Grows a b → OnOk r (Grows b c) → OnOk r (Grows a c)
ok_further a b c (Ok x) first then = grows_further a b c first then
ok_further a b c (Err e) first then = tt
