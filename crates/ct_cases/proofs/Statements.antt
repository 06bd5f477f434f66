-- A statement in a case: where the case goes, or that it is not met.
use Rattle.std.proofs.Common.{◌≡◌, ℕ, List, [], ◌∷◌, ◌++◌, map, None, sym, ap, ◌∙◌, subst}
use Rattle.std.specs.List.{Any}
use Rattle.std.proofs.lemmas.List.{map-append}
use Rattle.ic_behaviour.specs.State.{State}
use Rattle.ic_keep.specs.Kept.{state_at}
use Rattle.ct_check.specs.declared.checked.CheckedKind.{CheckedKind}
use Rattle.ct_outcomes.specs.declared.named.Named.{Named}
use Rattle.ct_outcomes.specs.declared.came.Came.{Came}
use Rattle.ct_run.specs.Called.{after_acts}
use Rattle.ct_run.specs.Statements.{Setting, IsMet}
use Rattle.ct_run.specs.Runs.{Steps}
use Rattle.ct_cases.specs.declared.case.Case.{Case}
use Rattle.ct_cases.specs.declared.case.Tables.{Tables}
use Rattle.ct_cases.specs.Meanings.{Meaning, meaning_at}
use Rattle.ct_cases.specs.Cases.{Grows, IsHeld, AreHeld, reached, all_reached, IsAfter, AreAfter, IsUnmetIn}
use Rattle.ct_cases.specs.Reached.{Reached}
use Rattle.ct_cases.proofs.Further.{after_push}
use Rattle.ct_cases.proofs.Lists.{any_first, any_later, rec_push}
use Rattle.ct_cases.proofs.Stays.{meaning_stays, reached_stays, all_held_stay, all_reached_stay}

module _ (setting : Setting) (statement : CheckedKind) (old made : Tables) (grows : Grows old made) (case : Case) (held : IsHeld old case)
    (s : State) (names : List Named) (same_state : s ≡ state_at old.keeper case.kept) (same_names : names ≡ (meaning_at made.meanings case.meaning).0) where
  known_names : names ≡ (reached old case).names
  known_names = same_names ∙ ap (λ (m : Meaning). m.0) (meaning_stays old made grows case.meaning held.known)

  -- what is said of the state and of the names that the case stands for
  in_case : (P : State → List Named → Type 0) → P s names → P (reached old case).state (reached old case).names
  in_case P is = subst (λ (t : State). P t (reached old case).names) same_state (subst (λ (ns : List Named). P s ns) known_names is)

  pub goes_to : (next : State) (known : List Named) (order : List ℕ) (after : Reached) → Steps setting s names statement next known None
      → order ≡ case.order.items → after ≡ record { state = next; names = known; order = order } → IsAfter setting statement (reached old case) after
  goes_to next known order after (acts, bound, met, at, binds) same is = record {
    acts = acts;
    bound = bound;
    met = in_case (λ (t : State) (ns : List Named). IsMet setting t ns statement acts bound) met;
    state = ap (λ (r : Reached). r.state) is ∙ at ∙ ap (λ (t : State). after_acts setting.charge t acts) same_state;
    names = ap (λ (r : Reached). r.names) is ∙ binds ∙ ap (λ (ns : List Named). ns ++ bound) known_names;
    order = ap (λ (r : Reached). r.order) is ∙ same;
  }

-- in one more case
module _ (setting : Setting) (statement : CheckedKind) (first old new : Tables) (so_far : Grows first old) (more : Grows old new) where
  pub all_go_to : (front after : List Case) (case next : Case) → AreHeld old after → IsHeld first case → AreAfter setting statement (all_reached first front) (all_reached old after)
      → IsHeld new next → IsAfter setting statement (reached old case) (reached new next)
      → AreHeld new (after ++ next ∷ []) × AreAfter setting statement (all_reached first (front ++ case ∷ [])) (all_reached new (after ++ next ∷ []))
  all_go_to front after case next held one all is goes =
      let stay = all_reached_stay old new more after held in
      let before = subst (λ (rs : List Reached). AreAfter setting statement (all_reached first front) rs) (sym stay) all in
      let here = subst (λ (r : Reached). IsAfter setting statement r (reached new next)) (reached_stays first old so_far case one) goes in
      let both = after_push setting statement (all_reached first front) (all_reached new after) (reached first case) (reached new next) before here in (
        rec_push (IsHeld new) after next (all_held_stay old new more after held) is,
        subst (λ (rs : List Reached). AreAfter setting statement rs (all_reached new (after ++ next ∷ []))) (sym (map-append (reached first) front (case ∷ [])))
            (subst (λ (rs : List Reached). AreAfter setting statement (all_reached first front ++ reached first case ∷ []) rs) (sym (map-append (reached new) after (next ∷ []))) both),
      )

  pub fails_among : (front back : List Case) (case : Case) (order : List ℕ) (names : List Named) (came : Came) → IsHeld first case
      → IsUnmetIn setting statement order names came (reached old case) → Any (IsUnmetIn setting statement order names came) (all_reached first (front ++ case ∷ back))
  fails_among front back case order names came one unmet =
      let here = subst (λ (r : Reached). IsUnmetIn setting statement order names came r) (reached_stays first old so_far case one) unmet in
      subst (λ (rs : List Reached). Any (IsUnmetIn setting statement order names came) rs) (sym (map-append (reached first) front (case ∷ back)))
      (any_among (all_reached first front) here)
    where
      any_among : (rs : List Reached) → IsUnmetIn setting statement order names came (reached first case)
          → Any (IsUnmetIn setting statement order names came) (rs ++ reached first case ∷ map (reached first) back)
      any_among [] here = any_first _ _ _ here
      any_among (r ∷ rs) here = any_later _ r _ (any_among rs here)
