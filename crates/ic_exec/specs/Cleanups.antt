-- The cleanup of a callback (IC Interface Specification, "Callback invocation").
use Rattle.std.specs.Prelude.{ℕ, Option, Some, None}
use Rattle.wm_store.specs.Lists.{Lists}
use Rattle.wm_semantics.specs.declared.target.Target.TheVariants.{Element}
use Rattle.ic_behaviour.specs.declared.context.Context.{Context}
use Rattle.ic_behaviour.specs.declared.env.Env.{Env}
use Rattle.ic_behaviour.specs.declared.execution.EntryKind.TheVariants as kind
use Rattle.ic_behaviour.specs.State.{Code}
use Rattle.ic_behaviour.specs.Counted.{CountedCanister}
use Rattle.ic_behaviour.specs.Outcomes.{Outcome, Enters}
use Rattle.ic_behaviour.specs.Executing.{view}
use Rattle.ic_run_laws.specs.TrapKeeps.{store_left}
use Rattle.ic_entry.specs.Entered.{told}

abbrev pub cleaned_by : Lists → Outcome → Lists × ℕ
cleaned_by s o = (store_left o s, (told o).used)

-- the store that it leaves, and what it used
abbrev pub after_cleanup : Enters → Env → CountedCanister → Context → Code → Option (ℕ × ℕ) → Lists × ℕ
after_cleanup enters env c x code None = (c.store, 0)
after_cleanup enters env c x code (Some target) = cleaned_by c.store (enters code c.store (Element target.0 target.1) kind.Cleanup (view env c x) env.limit)
