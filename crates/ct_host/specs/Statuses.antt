-- How the program ends.
use Rattle.std.specs.Prelude.{ℕ}
use Rattle.ct_host.specs.declared.status.Status.{Status}
use Rattle.ct_host.specs.declared.status.Status.TheVariants as statuses
use Rattle.ct_host.specs.declared.stop.Broken.{Broken}
use Rattle.ct_host.specs.declared.stop.Broken.TheVariants as breaks
use Rattle.ct_host.specs.declared.stop.Why.{Why}
use Rattle.ct_host.specs.declared.stop.Why.TheVariants as reasons

-- the exit status
abbrev pub code_of : Status → ℕ
code_of statuses.Passed = 0
code_of statuses.Failed = 1
code_of statuses.BadWords = 2
code_of statuses.Faulty = 3
code_of statuses.Unreadable = 4
code_of statuses.WriteFault = 5
code_of statuses.NoMemory = 6

-- the status where no test runs
abbrev pub status_of : Why → Status
status_of reasons.BadWords = statuses.BadWords
status_of reasons.Faulty = statuses.Faulty
status_of reasons.Unreadable = statuses.Unreadable

-- the status where a run breaks off
abbrev pub status_after : Broken → Status
status_after breaks.WriteFault = statuses.WriteFault
status_after breaks.NoMemory = statuses.NoMemory
