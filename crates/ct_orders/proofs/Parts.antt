-- The parts that are left of a test, at each state that it comes to.
use Rattle.std.proofs.Common.{◌≡◌, ℕ, ◌≤◌, List, [], ◌∷◌, ◌++◌, length, Option, refl, sym, ap, ◌∙◌, append_assoc, arith}
use Rattle.std.proofs.lemmas.List.{length-append}
use Rattle.ic_behaviour.specs.State.{State}
use Rattle.ic_behaviour.specs.Runs.{Act}
use Rattle.ic_behaviour.specs.Submitted.{empty}
use Rattle.ct_check.specs.Moving.{Moving}
use Rattle.ct_check.specs.declared.checked.CheckedKind.{CheckedKind}
use Rattle.ct_check.specs.declared.checked.CheckedStep.{CheckedStep}
use Rattle.ct_check.specs.declared.checked.CheckedStep.TheVariants.{Statement, Interleave}
use Rattle.ct_outcomes.specs.declared.named.Named.{Named}
use Rattle.ct_run.specs.Called.{after_acts}
use Rattle.ct_run.specs.Statements.{Setting, IsMet, first_names}
use Rattle.ct_cases.specs.Interleaves.{IsOnWay, IsEnd, CallsAreMet}
use Rattle.ct_orders.specs.Ways.{Comes, begins, states, leaves}

-- ends of one list that are equally long
pub same_ends : {X : Type 0} (front other ends others : List X) → front ++ ends ≡ other ++ others → length ends ≡ length others → ends ≡ others
same_ends [] [] ends others same many = same
same_ends {X} [] (y ∷ other) ends others same many = absurd (omega (arith, many, ap length same, length-append other others))
same_ends {X} (x ∷ front) [] ends others same many = absurd (omega (arith, many, ap length same, length-append front ends))
same_ends {X} (x ∷ front) (y ∷ other) ends others same many = let rest : front ++ ends ≡ other ++ others = cc in same_ends front other ends others rest many

module _ (setting : Setting) (steps : List CheckedStep) where
  -- how a test came to a state
  pub data Came (s : State) (names : List Named) (left : List CheckedStep) : Type 0 where
    at_first : s ≡ empty → names ≡ first_names → left ≡ steps → Came s names left
    by_statement : (before : State) (known bound : List Named) (statement : CheckedKind) (order : List ℕ) (acts : List Act)
        → Comes setting steps before known (Statement statement ∷ left) order → IsMet setting before known statement acts bound
        → s ≡ after_acts setting.charge before acts → names ≡ known ++ bound → Came s names left
    by_interleave : (before : State) (known bound : List Named) (moves : List Moving) (numbers : List (Option ℕ)) (order more : List ℕ)
        → Comes setting steps before known (Interleave moves ∷ left) order → IsOnWay setting known before moves numbers more s → IsEnd s
        → CallsAreMet setting known s moves numbers bound → names ≡ known ++ bound → Came s names left

  pub came : {s : State} {names : List Named} {left : List CheckedStep} {order : List ℕ} → Comes setting steps s names left order → Came s names left
  came begins = at_first refl refl refl
  came (states s names bound statement left order acts comes met) = by_statement s names bound statement order acts comes met refl refl
  came (leaves s t names bound moves numbers left order more comes way ended met) = by_interleave s names bound moves numbers order more comes way ended met refl

  pub ends : {s : State} {names : List Named} {left : List CheckedStep} {order : List ℕ} → Comes setting steps s names left order → (front : List CheckedStep) × (steps ≡ front ++ left)
  ends begins = ([], refl)
  ends (states s names bound statement left order acts comes met) =
      let before = ends comes in
      (before.0 ++ Statement statement ∷ [], before.1 ∙ sym (append_assoc before.0 (Statement statement ∷ []) left))
  ends (leaves s t names bound moves numbers left order more comes way ended met) =
      let before = ends comes in
      (before.0 ++ Interleave moves ∷ [], before.1 ∙ sym (append_assoc before.0 (Interleave moves ∷ []) left))

  -- as many parts are left as of these: they are these
  pub one_left : {s : State} {names : List Named} {left : List CheckedStep} {order : List ℕ} (done rest : List CheckedStep)
      → steps ≡ done ++ rest → Comes setting steps s names left order → length left ≡ length rest → left ≡ rest
  one_left {left = left} done rest parts comes many =
      let at = ends comes in
      same_ends at.0 done left rest (sym at.1 ∙ parts) many

  -- no more are left than there are
  pub few_left : {s : State} {names : List Named} {left : List CheckedStep} {order : List ℕ} → Comes setting steps s names left order → length left ≤ length steps
  few_left {left = left} comes =
      let at = ends comes in
      omega (arith, ap length at.1, length-append at.0 left)
