-- How code ended that was entered. No standard has this.
use Rattle.std.specs.Prelude.{ℕ, Bool, true, Result, Ok, Err}
use Rattle.wm_store.specs.Lists.{Lists}
use Rattle.wm_semantics.specs.declared.trap.Trap.{Trap}
use Rattle.ic_behaviour.specs.declared.execution.Effects.{Effects}
use Rattle.ic_behaviour.specs.Outcomes.{Outcome, Returns, Traps}
use Rattle.ic_entry.specs.declared.entering.Entered.{Entered}

-- the outcome, where it left this store
abbrev pub outcome_by : Lists → ℕ → Result Effects Trap → Outcome
outcome_by store used (Ok e) = Returns store e used
outcome_by store used (Err cause) = Traps cause used

abbrev pub outcome_in : Lists → Entered → Outcome
outcome_in store e = outcome_by store e.used e.ended

-- what an outcome tells beside the store
abbrev pub told : Outcome → Entered
told (Returns store e used) = record { ended = Ok e; used = used }
told (Traps cause used) = record { ended = Err cause; used = used }

-- the store afterwards: what code did to it is kept where it returns, if at all
abbrev pub store_after : (keeps : Bool) → Lists → Outcome → Lists
store_after true s (Returns store e used) = store
store_after keeps s outcome = s
