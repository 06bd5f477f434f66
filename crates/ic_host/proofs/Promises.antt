-- What holds in the run that a script makes.
use Rattle.std.proofs.Common.{◌≡◌, ℕ, cond, List, [], ◌∷◌, ◌++◌, Some, refl, sym, ap, ◌∙◌, subst, append_assoc, append-nil}
use Rattle.std.specs.List.{remove, flat_map, AllByRecursion}
use Rattle.std.specs.Map.{lookup, set_value}
use Rattle.std.proofs.lemmas.Bool.{cond-true, cond-false}
use Rattle.std.proofs.lemmas.Map.{lookup-set_value}
use Rattle.ic_behaviour.specs.declared.call.Origin.{Origin}
use Rattle.ic_behaviour.specs.declared.call.Origin.TheVariants as origin
use Rattle.ic_behaviour.specs.declared.call.Message.{Message}
use Rattle.ic_behaviour.specs.declared.call.Answered.{Answered}
use Rattle.ic_behaviour.specs.State.{at, callee_of, Canister, State}
use Rattle.ic_behaviour.specs.Counted.{counted, dropped}
use Rattle.ic_behaviour.specs.Closing.{Handled}
use Rattle.ic_behaviour.specs.Deliver.{env_at, handled_by, placed, routed, without}
use Rattle.ic_behaviour.specs.Submitted.{empty}
use Rattle.ic_behaviour.specs.Sound.{Sound}
use Rattle.ic_behaviour.proofs.Ties.{tallied}
use Rattle.ic_behaviour.proofs.Weights.{laws, at-self}
use Rattle.ic_behaviour.specs.Steps.{Rules, step, IsEligible}
use Rattle.ic_behaviour.specs.Runs.{Act, Delivers, AllStates, EachState, EachDelivery, IsRun, IsAnyRun, HasMessage, after_act}
use Rattle.ic_behaviour.proofs.RunLaws.{all_states, all_deliveries, any_run}
use Rattle.ic_run_laws.proofs.Delivers.{deliver_is}
use Rattle.ic_run_laws.proofs.Drains.{drained_done}
use Rattle.ic_run_laws.proofs.Histories.{allowed_parts, run_answered}
use Rattle.ic_run_laws.proofs.Trapped.{trap_keeps}
use Rattle.ic_run_laws.specs.EntryKeeps.{EntriesKeep}
use Rattle.ic_run_laws.specs.RulesKeep.{RulesKeep}
use Rattle.ic_host.specs.Headline.{PlacedOnce, Conserves, DoneWhenDrained, AnsweredOnce, IsAnswer, work_on, TrapLeaves, TrapsLeave}
use Rattle.ic_asking.proofs.Keeps.{act_sound}
use Rattle.ic_host.proofs.Told.{settles}
use Rattle.ic_host.proofs.Traces.{empty_sound}

-- ---- each state

each : (P Q : State → Type 0) → ((s : State) → P s → Q s) → (rules : Rules) (s : State) (acts : List Act) → AllStates P rules s acts → AllStates Q rules s acts
each P Q law rules s [] all = law s all
each P Q law rules s (act ∷ acts) all = (law s all.0, each P Q law rules (after_act rules s act) acts all.1)

module _ (rules : Rules) (keep : RulesKeep rules) (acts : List Act) (run : IsRun rules acts) where
  pub each_sound : EachState Sound rules acts
  each_sound = all_states Sound IsEligible rules (act_sound rules keep) empty acts empty_sound run

  pub each_placed_once : EachState PlacedOnce rules acts
  each_placed_once = each Sound PlacedOnce (λ s sound. sound.calls.one_place) rules empty acts each_sound

  pub each_conserves : EachState Conserves rules acts
  each_conserves = each Sound Conserves (λ s sound. sound.cycles.conserved) rules empty acts each_sound

  pub each_done : EachState DoneWhenDrained rules acts
  each_done = each Sound DoneWhenDrained (λ s sound drained. drained_done s (tallied s sound) drained) rules empty acts each_sound

  pub each_answered : AnsweredOnce rules acts
  each_answered front middle back place id is answers =
      let split : acts ≡ (front ++ Delivers place ∷ middle) ++ back = is ∙ sym (append_assoc front (Delivers place ∷ middle) back) in
      let begun = allowed_parts rules HasMessage empty (front ++ Delivers place ∷ middle) back (subst (IsAnyRun rules) split (any_run rules acts run)) in
      (run_answered rules keep front middle place id begun.0 answers).1

-- ---- each delivery

at_set : (key other : List ℕ) (es : List (List ℕ × Canister)) (c w : Canister) → lookup (at key) es ≡ Some c
    → lookup (at other) (set_value (at key) es w) ≡ cond (at key other) (Some w) (lookup (at other) es)
at_set key other es c w there = lookup-set_value laws (at key) (λ x y e. laws.congr key x y e) other w es (rw there refl)

answers-append : (xs ys : List Message) → AllByRecursion IsAnswer xs → AllByRecursion IsAnswer ys → AllByRecursion IsAnswer (xs ++ ys)
answers-append [] ys all more = more
answers-append (x ∷ xs) ys all more = (all.0, answers-append xs ys all.1 more)

routed_answers : (key : List ℕ) (answers : List Answered) → AllByRecursion IsAnswer (flat_map (routed key) answers)
routed_answers key [] = tt
routed_answers key (a ∷ answers) = answers-append (routed key a) _ (one a.origin) (routed_answers key answers) where
  one : (from : Origin) → AllByRecursion IsAnswer (routed key (record a { origin = from }))
  one (origin.Ingress k) = tt
  one (origin.Canister caller n context callback) = (tt, tt)

traps_leave : (rules : Rules) → EntriesKeep rules.enters → (s : State) (place : ℕ) → TrapsLeave rules s place
traps_leave rules lawful s place m c is_m there trapped =
    let key = callee_of m in
    let h : Handled = work_on rules s m c in
    let keeps = trap_keeps rules.enters (env_at s.time rules.limit rules.price) (counted s key c) m trapped in
    let done : step rules s place ≡ placed (without s place) key h =
    deliver_is rules.enters rules.outside rules.limit rules.price s place m is_m
    ∙ ap (handled_by rules.enters rules.outside rules.limit rules.price s (without s place) m) there in
    let leaves : TrapLeaves rules s (placed (without s place) key h) place m c h = record {
      keeps = keeps;
      canister = at_set key key s.canisters c (dropped h.canister) there ∙ cond-true (at key key) _ _ (at-self key);
      phase = (settles rules.enters lawful (env_at s.time rules.limit rules.price) (counted s key c) m).phase trapped;
      others = λ other apart. at_set key other s.canisters c (dropped h.canister) there ∙ cond-false (at key other) _ _ apart;
      messages = (
        flat_map (routed key) h.answers,
        ap (λ l. l ++ flat_map (routed key) h.answers) (ap (λ l. remove s.messages place ++ l) keeps.calls ∙ append-nil (remove s.messages place)),
        routed_answers key h.answers,
      );
      requests = refl;
      burned = refl;
      rest = (refl, refl, refl);
    } in
    let P = λ (t : State). TrapLeaves rules s t place m c h in
    subst P (sym done) leaves

pub each_trap : (rules : Rules) → RulesKeep rules → (acts : List Act) → EachDelivery (TrapsLeave rules) rules acts
each_trap rules keep acts = all_deliveries (TrapsLeave rules) rules (traps_leave rules keep.entries) empty acts
