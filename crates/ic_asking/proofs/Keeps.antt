-- Where the rules of a run keep what is asked of rules, each state of a run is sound.
use Rattle.std.proofs.Common.{◌≡◌, ℕ, zero, suc, List, [], ◌∷◌, length, inl, inr}
use Rattle.std.specs.Prelude.{◌==◌}
use Rattle.std.specs.List.{concat}
use Rattle.std.proofs.lemmas.Bool.{cases_Bool}
use Rattle.ic_behaviour.specs.State.{State}
use Rattle.ic_behaviour.specs.Sound.{Sound}
use Rattle.ic_behaviour.specs.Submitted.{submitted, timed}
use Rattle.ic_behaviour.proofs.Ties.{tallied, sound as sound_from}
use Rattle.ic_behaviour.proofs.Changes.{submitted_tallied, timed_tallied}
use Rattle.ic_behaviour.specs.Steps.{Rules, step, IsEligible, along, AreEligible}
use Rattle.ic_behaviour.specs.Round.{round, rounds}
use Rattle.ic_behaviour.specs.Runs.{Act, Delivers, Submits, SetsTime, after_act, after, IsAllowed, AreAllowed}
use Rattle.ic_behaviour.proofs.Chains.{round_eligible, eligible_append}
use Rattle.ic_run_laws.specs.RulesKeep.{RulesKeep}
use Rattle.ic_run_laws.proofs.Delivers.{deliver_sound}

module _ (rules : Rules) (keep : RulesKeep rules) where
  step_sound : (s : State) (place : ℕ) → Sound s → Sound (step rules s place)
  step_sound s place sound = deliver_sound rules.enters keep.entries rules.outside keep.outside rules.limit rules.price s place (tallied s sound)

  pub act_sound : (s : State) (act : Act) → Sound s → IsAllowed IsEligible s act → Sound (after_act rules s act)
  act_sound s (Delivers place) sound allowed = step_sound s place sound
  act_sound s (Submits sender callee method arg) sound allowed =
      sound_from (submitted s sender callee method arg) (submitted_tallied s sender callee method arg (tallied s sound) allowed)
  act_sound s (SetsTime time) sound allowed = sound_from (timed s time) (timed_tallied s time (tallied s sound) allowed.0 allowed.1)

  pub after_sound : (s : State) (acts : List Act) → Sound s → AreAllowed IsEligible rules s acts → Sound (after rules s acts)
  after_sound s [] sound allowed = sound
  after_sound s (act ∷ acts) sound allowed = after_sound (after_act rules s act) acts (act_sound s act sound allowed.0) allowed.1

  along_sound : (s : State) (places : List ℕ) → Sound s → Sound (along rules s places)
  along_sound s [] sound = sound
  along_sound s (place ∷ places) sound = along_sound (step rules s place) places (step_sound s place sound)

  pub rounds_eligible : (count : ℕ) (s : State) → Sound s → AreEligible rules s (concat (rounds rules count s))
  unfolding rounds
  rounds_eligible zero s sound = tt
  rounds_eligible (suc count) s sound =
      elim (cases_Bool (length s.messages == 0)) [
        | inl none ↦ rw none tt
        | inr some ↦
            let next : State = along rules s (round rules s) in
            rw some (eligible_append rules s (round rules s) (concat (rounds rules count next)) (round_eligible rules s sound.names.rises)
            (rounds_eligible count next (along_sound s (round rules s) sound)))
      ]
