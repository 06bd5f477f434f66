-- How code ends that is entered while somebody listens: as where nobody does, and what was heard.
use Rattle.std.proofs.Common.{◌≡◌, ℕ, Some, sym, ap, ◌∙◌}
use Rattle.ic_heard.specs.Hears.{Speech}
use Rattle.wm_store.specs.Lists.{Lists}
use Rattle.wm_semantics.specs.declared.target.Target.{Target}
use Rattle.wm_semantics.specs.declared.target.Ended.{Ended}
use Rattle.wm_semantics.specs.declared.target.Ended.TheVariants.{Returned, Trapped}
use Rattle.wm_semantics.specs.declared.trap.Trap.{Trap}
use Rattle.wm_semantics.specs.Metered.{Metered}
use Rattle.wm_semantics.specs.Steps.{outcome}
use Rattle.wm_semantics.specs.Fuel.{invoked}
use Rattle.wm_semantics.specs.Entry.{entered_by, entered_or, entry}
use Rattle.ic_behaviour.specs.declared.execution.EntryKind.{EntryKind}
use Rattle.ic_behaviour.specs.declared.execution.View.{View}
use Rattle.ic_behaviour.specs.declared.execution.Effects.{Effects}
use Rattle.ic_behaviour.specs.State.{Code}
use Rattle.ic_behaviour.specs.Outcomes.{Returns, Traps}
use Rattle.ic_behaviour.specs.Entry.{outcome_of}
use Rattle.ic_behaviour.specs.Installing.{enters_after}
use Rattle.ic_api.specs.Effects.{effects_of}
use Rattle.ic_api.specs.System.{system_api}
use Rattle.ic_api.specs.Hearing.{Listening, hearing_reply, listening, hearing_api, heard_in, heard_after}
use Rattle.ic_api.proofs.Hearings.{changes_nothing}

module _ (before : Speech) (code : Code) (s t : Lists) (target : Target) (kind : EntryKind) (view : View) (h h' : Listening) (m : Metered) (used : ℕ) (ended : Ended)
    (begins : h ≡ listening before kind view) (runs : invoked hearing_reply code.«module» m.limit h s m.used target ≡ Some (outcome ended h' t used)) where
  comes : invoked hearing_reply code.«module» m.limit (listening before kind view) s m.used target ≡ Some (outcome ended h' t used)
  comes = sym (ap (λ g. invoked hearing_reply code.«module» m.limit g s m.used target) begins) ∙ runs

  enters_heard : outcome_of (hearing_api before) (entered_by ended h' t used) ≡ enters_after (hearing_api before) code s target kind view m.limit m.used
  unfolding enters_after entry
  enters_heard = ap (λ r. outcome_of (hearing_api before) (entered_or m.used r)) (sym comes)

  ends_so : (so : Ended) → ended ≡ so → outcome_of (hearing_api before) (entered_by so h' t used) ≡ enters_after system_api code s target kind view m.limit m.used
  ends_so so is =
      ap (λ f. outcome_of (hearing_api before) (entered_by f h' t used)) (sym is)
      ∙ enters_heard ∙ changes_nothing before code s target kind view m.limit m.used

  pub heard_returns : (e : Effects) → ended ≡ Returned → e ≡ effects_of h'.run → Returns t e used ≡ enters_after system_api code s target kind view m.limit m.used
  heard_returns e is is_done = ap (λ d. Returns t d used) is_done ∙ ends_so Returned is

  pub heard_traps : (cause : Trap) → ended ≡ Trapped cause → Traps cause used ≡ enters_after system_api code s target kind view m.limit m.used
  heard_traps cause is = ends_so (Trapped cause) is

  pub heard_is : h'.heard ≡ heard_after before code s target kind view m.limit m.used
  unfolding heard_after
  heard_is = ap (heard_in before) (sym comes)
