-- What is asked of the rules of a run, and what is said of its calls. No standard has this.
use Rattle.std.specs.Prelude.{◌≡◌, ℕ, slice_get, MatchOption}
use Rattle.ic_behaviour.specs.declared.call.CallId.{CallId}
use Rattle.ic_behaviour.specs.State.{State}
use Rattle.ic_behaviour.specs.Steps.{Rules}
use Rattle.ic_run_laws.specs.EntryKeeps.{EntriesKeep}
use Rattle.ic_run_laws.specs.Advances.{ends, OutsideKeeps}

pub record RulesKeep (rules : Rules) : Type 0 where
  pub entries : EntriesKeep rules.enters
  pub outside : OutsideKeeps rules.outside

-- the message at a place is the answer to this call
abbrev pub AnswersCall : State → ℕ → CallId → Type 0
AnswersCall s place id = MatchOption (slice_get s.messages place) ⊥ (λ m. ends m id ≡ 1)
