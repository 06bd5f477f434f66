-- What a call of the System API does (IC Interface Specification, "System API"): its answer, and what it changes.
use Rattle.std.specs.Prelude.{ℕ}
use Rattle.wm_store.specs.Lists.{Lists}
use Rattle.wm_semantics.specs.declared.trap.Trap.{Trap}
use Rattle.wm_semantics.specs.declared.trap.Trap.TheVariants as trap
use Rattle.wm_semantics.specs.declared.host.HostAnswer.{HostAnswer}
use Rattle.wm_semantics.specs.declared.host.HostAnswer.TheVariants as answer
use Rattle.ic_api.specs.declared.execution.Execution.{Execution}

-- what a call can look at and change: the record of the execution, memory and stable memory
pub record Now : Type 0 where
  pub es : Execution
  pub lists : Lists

-- the answer, and what there is after it
pub record Step (S : Type 0) : Type 0 where
  pub answer : HostAnswer
  pub after : S

abbrev pub says : {S : Type 0} → HostAnswer → S → Step S
says answer now = record { answer = answer; after = now }

abbrev pub done : {S : Type 0} → S → Step S
done after = says answer.Nothing after

abbrev pub tells : {S : Type 0} → ℕ → S → Step S
tells n after = says (answer.Number n) after

-- after a trap all is as before the call
abbrev pub traps : {S : Type 0} → Trap → S → Step S
traps t now = says (answer.Trap t) now

abbrev pub fails : {S : Type 0} → S → Step S
fails now = traps trap.Api now

-- ---- the parts that a call changes

abbrev pub in_record : Step Execution → Lists → Step Now
in_record step lists = record { answer = step.answer; after = record { es = step.after; lists = lists } }

abbrev pub in_lists : Execution → Step Lists → Step Now
in_lists es step = record { answer = step.answer; after = record { es = es; lists = step.after } }
