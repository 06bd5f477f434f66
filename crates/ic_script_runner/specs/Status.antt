-- The exit status of the program.
use Rattle.std.specs.Prelude.{ℕ}
use Rattle.ic_script_runner.specs.declared.status.Status.{Status}
use Rattle.ic_script_runner.specs.declared.status.Status.TheVariants.{Done, BadWords, BadLine, ReadFault, WriteFault, NoMemory}

-- each status has a code of its own
abbrev pub code_of : Status → ℕ
code_of Done = 0
code_of BadWords = 2
code_of (BadLine line cause) = 3
code_of ReadFault = 4
code_of WriteFault = 5
code_of NoMemory = 6
