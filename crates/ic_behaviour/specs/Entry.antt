-- What code does when it is entered, by the reductions of WebAssembly and a host for the System API (IC Interface Specification, "Abstract Canisters to System API").
use Rattle.wm_semantics.specs.Fuel.{HostOf}
use Rattle.wm_semantics.specs.Entry as run
use Rattle.ic_behaviour.specs.declared.execution.EntryKind.{EntryKind}
use Rattle.ic_behaviour.specs.declared.execution.View.{View}
use Rattle.ic_behaviour.specs.declared.execution.Effects.{Effects}
use Rattle.ic_behaviour.specs.Outcomes.{Outcome, Returns, Traps, Enters}

-- the System API as a host: how it answers, how an execution begins, and what it did at its end
pub record SystemApi (H : Type 0) : Type 0 where
  pub reply : HostOf H
  pub begin : EntryKind → View → H
  pub effects : H → Effects

abbrev pub outcome_of : {H : Type 0} → SystemApi H → run.Entered H → Outcome
outcome_of api (run.Returns s h used) = Returns s (api.effects h) used
outcome_of api (run.Traps cause used) = Traps cause used

-- nothing is used when it begins
unfoldable pub enters_by : {H : Type 0} → SystemApi H → Enters
enters_by api code s target kind view limit = outcome_of api (run.entry api.reply code.«module» s target (api.begin kind view) limit 0)
