-- What happens on a way through a test is a run of any order.
use Rattle.std.proofs.Common.{◌≡◌, ◌<◌, ◌^◌, ℕ, Bool, true, false, cond, List, [], ◌∷◌, ◌++◌, length, Option, Some, None, refl, sym, ap, ◌∙◌, subst, arith}
use Rattle.ic_behaviour.specs.State.{State}
use Rattle.ic_behaviour.specs.Sound.{Sound}
use Rattle.ic_behaviour.specs.Submitted.{empty, submitted, timed}
use Rattle.ic_behaviour.proofs.Ties.{tallied, sound as sound_from}
use Rattle.ic_behaviour.proofs.Changes.{empty_tallied, submitted_tallied, timed_tallied}
use Rattle.ic_behaviour.specs.Steps.{Rules, step}
use Rattle.ic_behaviour.specs.Runs.{Act, Delivers, Submits, SetsTime, after_act, after, IsAllowed, AreAllowed, HasMessage}
use Rattle.ic_behaviour.proofs.RunLaws.{after-append, allowed-append, any_allowed}
use Rattle.ic_run_laws.specs.RulesKeep.{RulesKeep}
use Rattle.ic_run_laws.proofs.Delivers.{deliver_sound}
use Rattle.ic_mgmt_laws.proofs.Managed.{managed_keep}
use Rattle.ic_order.proofs.Comes.{within}
use Rattle.ic_script.specs.declared.Ask.{Ask}
use Rattle.ic_asking.specs.Asking.{accepts_now}
use Rattle.ct_check.specs.Moving.{Moving}
use Rattle.ct_check.specs.declared.checked.CheckedStep.{CheckedStep}
use Rattle.ct_outcomes.specs.declared.named.Named.{Named}
use Rattle.ct_run.specs.Called.{rules_of, with_call, call_act, after_acts}
use Rattle.ct_run.specs.Statements.{Setting}
use Rattle.ct_run.proofs.Acts.{met_allowed}
use Rattle.ct_cases.specs.Interleaves.{is_query, Choose, IsCallSubmitted, AreSubmitted, Deliver}
use Rattle.ct_orders.specs.Ways.{Comes, begins, states, leaves}

module _ (setting : Setting) where
  abbrev rules : Rules
  rules = rules_of setting.charge

  keep : RulesKeep rules
  keep = managed_keep setting.charge.limit setting.charge.price

  abbrev Allowed : State → List Act → Type 0
  Allowed s acts = AreAllowed HasMessage rules s acts

  -- acts of any order that lead from one state to another
  abbrev Leads : State → State → Type 0
  Leads s t = (acts : List Act) × Allowed s acts × (t ≡ after rules s acts)

  -- ---- states of a run of any order are sound

  act_sound : (s : State) (act : Act) → Sound s → IsAllowed HasMessage s act → Sound (after_act rules s act)
  act_sound s (Delivers place) sound allowed = deliver_sound rules.enters keep.entries rules.outside keep.outside rules.limit rules.price s place (tallied s sound)
  act_sound s (Submits sender callee method arg) sound allowed =
      sound_from (submitted s sender callee method arg) (submitted_tallied s sender callee method arg (tallied s sound) allowed)
  act_sound s (SetsTime time) sound allowed = sound_from (timed s time) (timed_tallied s time (tallied s sound) allowed.0 allowed.1)

  after_sound : (s : State) (acts : List Act) → Sound s → Allowed s acts → Sound (after rules s acts)
  after_sound s [] sound allowed = sound
  after_sound s (act ∷ acts) sound allowed = after_sound (after_act rules s act) acts (act_sound s act sound allowed.0) allowed.1

  leads_sound : (s : State) → Leads empty s → Sound s
  leads_sound s (acts, allowed, at) = subst Sound (sym at) (after_sound empty acts (sound_from empty empty_tallied) allowed)

  -- ---- one after another

  onward : (s t u : State) → Leads s t → Leads t u → Leads s u
  onward s t u (acts, allowed, at) (more, then, there) = (
    acts ++ more,
    allowed-append HasMessage rules s acts more allowed (subst (λ (x : State). Allowed x more) at then),
    there ∙ ap (λ (x : State). after rules x more) at ∙ sym (after-append rules s acts more),
  )

  -- ---- an interleave

  accepted : (s t : State) (ask : Ask) (number : Option ℕ) (b : Bool) → length s.requests < 2 ^ 20
      → ◌≡◌ {A = State × Option ℕ} (t, number) (cond b (with_call s ask, Some (length s.requests)) (s, None)) → Leads s t
  accepted s t ask number true few is = (call_act ask ∷ [], (few, tt), ap (λ (x : State × Option ℕ). x.0) is)
  accepted s t ask number false few is = ([], tt, ap (λ (x : State × Option ℕ). x.0) is)

  call_submitted : (names : List Named) (s t : State) (moving : Moving) (number : Option ℕ) → IsCallSubmitted setting names s moving number t → Leads s t
  call_submitted names s t moving number is =
      accepted s t is.ask number (accepts_now setting.charge.limit setting.charge.price s is.ask) (omega (arith, is.few)) is.submitted

  move_submitted : (b : Bool) (names : List Named) (s t : State) (moving : Moving) (number : Option ℕ)
      → Choose b ((number ≡ None) × (t ≡ s)) (IsCallSubmitted setting names s moving number t) → Leads s t
  move_submitted true names s t moving number is = ([], tt, is.1)
  move_submitted false names s t moving number is = call_submitted names s t moving number is

  all_submitted : (names : List Named) (s t : State) (moves : List Moving) (numbers : List (Option ℕ)) → AreSubmitted setting names s moves numbers t → Leads s t
  all_submitted names s t [] [] same = ([], tt, same)
  all_submitted names s t (moving ∷ moves) (number ∷ numbers) (next, first, rest) =
      onward s next t (move_submitted (is_query moving.action) names s next moving number first) (all_submitted names next t moves numbers rest)
  all_submitted names s t [] (number ∷ numbers) none = absurd none
  all_submitted names s t (moving ∷ moves) [] none = absurd none

  delivered : (s : State) (order : List ℕ) (t : State) → Deliver setting s order t → Leads s t
  delivered s [] t same = ([], tt, same)
  delivered s (place ∷ order) t (may, rest) =
      onward s (step rules s place) t (Delivers place ∷ [], (within s place may, tt), refl) (delivered (step rules s place) order t rest)

  -- ---- a way

  pub ways_are_runs : (steps : List CheckedStep) (s : State) (names : List Named) (left : List CheckedStep) (order : List ℕ)
      → Comes setting steps s names left order → Leads empty s
  ways_are_runs steps s names left order begins = ([], tt, refl)
  ways_are_runs steps t names left order (states s known bound statement rest way acts comes met) =
      let before = ways_are_runs steps s known (_ ∷ rest) way comes in
      onward empty s (after_acts setting.charge s acts) before
      (acts, any_allowed rules s acts (met_allowed setting s known statement acts bound (leads_sound s before) met), refl)
  ways_are_runs steps t names left order (leaves s end known bound moves numbers rest way more comes on ended met) =
      let before = ways_are_runs steps s known (_ ∷ rest) way comes in
      onward empty s end before
      (onward s on.start end (all_submitted known s on.start moves numbers on.submitted) (delivered on.start more end on.delivered))
