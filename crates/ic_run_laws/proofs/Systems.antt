-- Code that has the System API keeps what is asked of an entry.
use Rattle.std.proofs.Common.{ℕ, ap}
use Rattle.ic_behaviour.specs.declared.execution.EntryKind.{EntryKind}
use Rattle.ic_behaviour.specs.declared.execution.View.{View}
use Rattle.ic_behaviour.specs.declared.execution.Effects.{Effects}
use Rattle.ic_behaviour.specs.Entry.{enters_by}
use Rattle.ic_behaviour.specs.Deliver.{Outside}
use Rattle.ic_api.specs.Kinds.{may_call}
use Rattle.ic_api.specs.Executed.{Executed}
use Rattle.ic_api.specs.System.{system_api}
use Rattle.ic_api.proofs.Executions.{entered}
use Rattle.ic_run_laws.specs.EntryKeeps.{EntryKeeps, EntriesKeep}
use Rattle.ic_run_laws.specs.Advances.{OutsideKeeps}
use Rattle.ic_run_laws.specs.RulesKeep.{RulesKeep}
use Rattle.ic_run_laws.specs.System.{system_rules}

entry_keeps : (k : EntryKind) (v : View) (e : Effects) → Executed k v e → EntryKeeps k v e
entry_keeps k v e x = record { cycles = x.cycles; few = x.few; late = x.late; gift = x.gift; spent = x.spent; quiet = λ is. x.quiet (ap may_call is) }

pub entries_keep : EntriesKeep (enters_by system_api)
entries_keep code s target k v limit t e used is = entry_keeps k v e (entered code s target k v limit t e used is)

pub rules_keep : (outside : Outside) (limit price : ℕ) → OutsideKeeps outside → RulesKeep (system_rules outside limit price)
rules_keep outside limit price keeps = record { entries = entries_keep; outside = keeps }
