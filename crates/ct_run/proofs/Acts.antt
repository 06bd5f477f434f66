-- What the statements of a test do is a run.
use Rattle.std.proofs.Common.{◌≡◌, ◌<◌, ◌^◌, ℕ, Bool, true, false, cond, ◌&&◌, List, [], ◌∷◌, ◌++◌, length, Option, Some, None, refl, sym, ap, ◌∙◌, subst, inl, inr, nat_le, nat_lt, arith}
use Rattle.std.proofs.lemmas.Bool.{ltb-true, leb-true}
use Rattle.ic_behaviour.specs.State.{State}
use Rattle.ic_behaviour.specs.Sound.{Sound}
use Rattle.ic_behaviour.specs.Submitted.{empty}
use Rattle.ic_behaviour.proofs.Ties.{sound as sound_from}
use Rattle.ic_behaviour.proofs.Changes.{empty_tallied}
use Rattle.ic_behaviour.specs.Steps.{Rules, IsEligible}
use Rattle.ic_behaviour.specs.Runs.{Act, SetsTime, AreAllowed, IsRun}
use Rattle.ic_behaviour.specs.declared.charge.Charge.{Charge}
use Rattle.ic_behaviour.specs.declared.install.Mode.TheVariants.{Install}
use Rattle.ic_behaviour.proofs.RunLaws.{after-append, delivers_allowed, allowed-append}
use Rattle.ic_run_laws.specs.RulesKeep.{RulesKeep}
use Rattle.ic_mgmt_laws.proofs.Managed.{managed_keep}
use Rattle.ic_script.specs.declared.Ask.{Ask}
use Rattle.ic_asking.specs.Asking.{accepts_now}
use Rattle.ic_asking.proofs.Keeps.{act_sound, after_sound, rounds_eligible}
use Rattle.ct_check.specs.declared.checked.CheckedKind.{CheckedKind}
use Rattle.ct_check.specs.declared.checked.CheckedKind.TheVariants as kinds
use Rattle.ct_check.specs.declared.checked.CheckedOrigin.TheVariants as origins
use Rattle.ct_check.specs.declared.checked.CheckedCreation.{CheckedCreation}
use Rattle.ct_outcomes.specs.declared.named.Named.{Named}
use Rattle.ct_outcomes.specs.declared.came.Came.TheVariants.{Refused, TooManyCalls}
use Rattle.ct_asked.specs.declared.asked.Asked.{Asked}
use Rattle.ct_asked.specs.declared.asked.Asked.TheVariants.{Call, Query, Nothing}
use Rattle.ct_asked.specs.Asked.{unless_too_long}
use Rattle.ct_asked.specs.Requests.{Code, creating, installing}
use Rattle.ct_run.specs.Called.{Doing, rules_of, most_calls, most_rounds, nothing, acts_of_rounds, call_act, with_call, accepted_call, called, doing, after_acts}
use Rattle.ct_run.specs.Created.{Making, canister_of, then_installed, making}
use Rattle.ct_run.specs.Statements.{Setting, IsMaking, time_set, IsMet, first_names}
use Rattle.ct_run.specs.Runs.{Runs}

module _ (charge : Charge) where
  abbrev rules : Rules
  rules = rules_of charge

  keep : RulesKeep rules
  keep = managed_keep charge.limit charge.price

  -- acts that may come now
  abbrev Allowed : State → List Act → Type 0
  Allowed s acts = AreAllowed IsEligible rules s acts

  rounds_allowed : (s : State) → Sound s → Allowed s (acts_of_rounds charge s)
  unfolding acts_of_rounds
  rounds_allowed s sound = delivers_allowed rules s _ (rounds_eligible rules keep most_rounds s sound)

  called_allowed : (s : State) (ask : Ask) → Sound s → Allowed s (called charge s ask).acts
  unfolding called
  called_allowed s ask sound = by (nat_lt (length s.requests) most_calls) refl (accepts_now charge.limit charge.price s ask) where
    by : (few : Bool) → nat_lt (length s.requests) most_calls ≡ few → (accepted : Bool)
        → Allowed s (cond few (cond accepted (accepted_call charge s ask) (nothing Refused)) (nothing TooManyCalls)).acts
    by true few true =
        let now : length s.requests < 2 ^ 20 = omega (arith, ltb-true _ _ few) in
        (now, rounds_allowed (with_call s ask) (act_sound rules keep s (call_act ask) sound now))
    by true few false = tt
    by false many accepted = tt

  doing_allowed : (s : State) (asked : Asked) → Sound s → Allowed s (doing charge s asked).acts
  doing_allowed s (Call ask) sound = called_allowed s ask sound
  doing_allowed s (Query ask) sound = tt
  doing_allowed s (Nothing came) sound = tt

  installed_allowed : (s : State) (maker : List ℕ × Code) (first : Doing) → Sound s → Allowed s first.acts → (canister : Option (List ℕ))
      → Allowed s (then_installed charge s maker first canister).acts
  installed_allowed s maker first sound allowed None = allowed
  installed_allowed s maker first sound allowed (Some canister) =
      let mid = after_acts charge s first.acts in
      allowed-append IsEligible rules s first.acts _ allowed
      (doing_allowed mid (unless_too_long Call (installing maker.0 canister Install maker.1)) (after_sound rules keep s first.acts sound allowed))

  making_allowed : (s : State) (maker : List ℕ × Code) (cycles : Option ℕ) → Sound s → Allowed s (making charge s maker cycles).acts
  unfolding making
  making_allowed s maker cycles sound =
      let first = doing charge s (unless_too_long Call (creating maker.0 cycles)) in
      installed_allowed s maker first sound (doing_allowed s (unless_too_long Call (creating maker.0 cycles)) sound) (canister_of first.came)

  time_allowed : (s : State) (time : ℕ) → Allowed s (time_set s time)
  time_allowed s time = by (nat_le s.time time) refl (nat_le time 9223372036854775807) refl where
    by : (later : Bool) → nat_le s.time time ≡ later → (small : Bool) → nat_le time 9223372036854775807 ≡ small → Allowed s (cond (later && small) (SetsTime time ∷ []) [])
    by true later true small = ((leb-true _ _ later, leb-true _ _ small), tt)
    by true later false small = tt
    by false later true small = tt
    by false later false small = tt

module _ (setting : Setting) where
  made_allowed : (s : State) (names : List Named) (by : ℕ) (creation : CheckedCreation) (m : Making) → Sound s → IsMaking setting s names by creation m → Allowed setting.charge s m.acts
  made_allowed s names by creation m sound (inl (maker, is, e)) =
      subst (λ (z : Making). Allowed setting.charge s z.acts) (sym e) (making_allowed setting.charge s maker creation.cycles sound)
  made_allowed s names by creation m sound (inr (none, e)) = subst (λ (z : Making). Allowed setting.charge s z.acts) (sym e) tt

  pub met_allowed : (s : State) (names : List Named) (k : CheckedKind) (acts : List Act) (bound : List Named) → Sound s → IsMet setting s names k acts bound → Allowed setting.charge s acts
  met_allowed s names (kinds.Users us) acts bound sound (e, binds) = subst (λ (xs : List Act). Allowed setting.charge s xs) (sym e) tt
  met_allowed s names (kinds.Time time) acts bound sound (e, binds) = subst (λ (xs : List Act). Allowed setting.charge s xs) (sym e) (time_allowed setting.charge s time)
  met_allowed s names (kinds.Canister by name (origins.Principal id interface)) acts bound sound (e, binds) = subst (λ (xs : List Act). Allowed setting.charge s xs) (sym e) tt
  met_allowed s names (kinds.Canister by name (origins.Named slot interface)) acts bound sound (e, binds) = subst (λ (xs : List Act). Allowed setting.charge s xs) (sym e) tt
  met_allowed s names (kinds.Canister by name (origins.Made creation)) acts bound sound (m, id, met, is, so, e, binds) =
      subst (λ (xs : List Act). Allowed setting.charge s xs) (sym e) (made_allowed s names by creation m sound is)
  met_allowed s names (kinds.Move moving) acts bound sound (asked, is, meets, e) = subst (λ (xs : List Act). Allowed setting.charge s xs) (sym e) (doing_allowed setting.charge s asked sound)

  runs_allowed : (s : State) (names : List Named) (ks : List CheckedKind) (acts : List Act) (end : State) (last : List Named) → Sound s
      → Runs setting s names ks acts end last → Allowed setting.charge s acts
  runs_allowed s names [] acts end last sound (e, at, binds) = subst (λ (xs : List Act). Allowed setting.charge s xs) (sym e) tt
  runs_allowed s names (k ∷ ks) acts end last sound (first, bound, more, met, runs, all) =
      let now = met_allowed s names k first bound sound met in
      let there = after_sound (rules setting.charge) (keep setting.charge) s first sound now in
      subst (λ (xs : List Act). Allowed setting.charge s xs) (sym all)
      (allowed-append IsEligible (rules setting.charge) s first more now (runs_allowed (after_acts setting.charge s first) (names ++ bound) ks more end last there runs))

  -- and they lead to the state after it
  runs_end : (s : State) (names : List Named) (ks : List CheckedKind) (acts : List Act) (end : State) (last : List Named) → Runs setting s names ks acts end last
      → end ≡ after_acts setting.charge s acts
  runs_end s names [] acts end last (e, at, binds) = at ∙ ap (after_acts setting.charge s) (sym e)
  runs_end s names (k ∷ ks) acts end last (first, bound, more, met, runs, all) =
      runs_end (after_acts setting.charge s first) (names ++ bound) ks more end last runs
      ∙ sym (after-append (rules setting.charge) s first more) ∙ ap (after_acts setting.charge s) (sym all)

  pub runs_are_runs : (ks : List CheckedKind) (acts : List Act) (end : State) (last : List Named) → Runs setting empty first_names ks acts end last
      → IsRun (rules_of setting.charge) acts × (end ≡ after_acts setting.charge empty acts)
  runs_are_runs ks acts end last runs = (runs_allowed empty first_names ks acts end last (sound_from empty empty_tallied) runs, runs_end empty first_names ks acts end last runs)
