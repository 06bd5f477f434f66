-- How code ends that is entered, by the outcome of its run.
use Rattle.std.proofs.Common.{◌≡◌, ℕ, Some, Result, sym, ap, ◌∙◌}
use Rattle.wm_store.specs.Lists.{Lists}
use Rattle.wm_semantics.specs.declared.target.Target.{Target}
use Rattle.wm_semantics.specs.declared.target.Ended.{Ended}
use Rattle.wm_semantics.specs.declared.target.Ended.TheVariants.{Returned, Trapped}
use Rattle.wm_semantics.specs.declared.trap.Trap.{Trap}
use Rattle.wm_semantics.specs.Metered.{Metered}
use Rattle.wm_semantics.specs.Steps.{Outcome, outcome}
use Rattle.wm_semantics.specs.Fuel.{invoked}
use Rattle.wm_semantics.specs.Entry.{entered, entered_or, entry}
use Rattle.ic_behaviour.specs.declared.execution.EntryKind.{EntryKind}
use Rattle.ic_behaviour.specs.declared.execution.View.{View}
use Rattle.ic_behaviour.specs.declared.execution.Effects.{Effects}
use Rattle.ic_behaviour.specs.State.{Code}
use Rattle.ic_behaviour.specs.Outcomes.{Returns, Traps}
use Rattle.ic_behaviour.specs.Entry.{outcome_of, enters_by}
use Rattle.ic_behaviour.specs.Installing.{enters_after}
use Rattle.ic_api.specs.Effects.{effects_of}
use Rattle.ic_api.specs.Running.{Running, starting, api_reply}
use Rattle.ic_api.specs.System.{system_api}
use Rattle.ic_entry.specs.Entered.{outcome_by}

enters_is : (code : Code) (s : Lists) (target : Target) (kind : EntryKind) (view : View) (h : Running) (m : Metered) (o : Outcome Running) → h ≡ starting kind view
    → invoked api_reply code.«module» m.limit h s m.used target ≡ Some o → outcome_of system_api (entered o) ≡ enters_after system_api code s target kind view m.limit m.used
unfolding enters_after entry
enters_is code s target kind view h m o begins e =
    ap (λ r. outcome_of system_api (entered_or m.used r))
    (sym e ∙ ap (λ g. invoked api_reply code.«module» m.limit g s m.used target) begins)

module _ (code : Code) (s t : Lists) (target : Target) (kind : EntryKind) (view : View) (h h' : Running) (m : Metered) (used : ℕ) (ended : Ended)
    (begins : h ≡ starting kind view) (runs : invoked api_reply code.«module» m.limit h s m.used target ≡ Some (outcome ended h' t used)) where
  pub returns_is : (e : Effects) → ended ≡ Returned → e ≡ effects_of h' → Returns t e used ≡ enters_after system_api code s target kind view m.limit m.used
  returns_is e is is_done =
      ap (λ d. Returns t d used) is_done
      ∙ enters_is code s target kind view h m (outcome Returned h' t used) begins (runs ∙ ap (λ f. Some (outcome f h' t used)) is)

  pub traps_is : (cause : Trap) → ended ≡ Trapped cause → Traps cause used ≡ enters_after system_api code s target kind view m.limit m.used
  traps_is cause is =
      enters_is code s target kind view h m (outcome (Trapped cause) h' t used) begins (runs ∙ ap (λ f. Some (outcome f h' t used)) is)

-- with a meter of its own
pub fresh_is : (code : Code) (s t : Lists) (target : Target) (kind : EntryKind) (view : View) (limit n used : ℕ) (m : Metered) (ended : Result Effects Trap) → m ≡ record { limit = limit; used = 0 } → n ≡ used
    → outcome_by t used ended ≡ enters_after system_api code s target kind view m.limit m.used → outcome_by t n ended ≡ enters_by system_api code s target kind view limit
unfolding enters_by enters_after
fresh_is code s t target kind view limit n used m ended fresh is_used is =
    ap (λ k. outcome_by t k ended) is_used ∙ is
    ∙ ap (λ (q : Metered). outcome_of system_api (entry api_reply code.«module» s target (starting kind view) q.limit q.used)) fresh
