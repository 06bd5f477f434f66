-- The counts of faults after a run.
use Rattle.std.specs.Prelude.{ℕ}
use Rattle.ic_outside.specs.Faults.{next_count}
use Rattle.ic_script_runner.specs.declared.status.Status.{Status}
use Rattle.ic_script_runner.specs.declared.status.Status.TheVariants.{ReadFault, WriteFault}

-- the source's count after a run that ended so: one more at `ReadFault`, and as before at every other status
abbrev pub source_count_after : ℕ → Status → ℕ
source_count_after before ReadFault = next_count before
source_count_after before other = before

-- the sink's: one more at `WriteFault`, and as before at every other status
abbrev pub sink_count_after : ℕ → Status → ℕ
sink_count_after before WriteFault = next_count before
sink_count_after before other = before
