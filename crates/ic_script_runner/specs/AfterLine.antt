-- What a line of a script does.
use Rattle.std.specs.Prelude.{ℕ, List, Result, Ok, Err}
use Rattle.ic_script.specs.Line.{command_of}
use Rattle.ic_script.specs.declared.Command.{Command}
use Rattle.ic_script.specs.declared.LineCause.{LineCause}
use Rattle.ic_options.specs.declared.Options.{Options}
use Rattle.ic_script_runner.specs.AfterCommand.{after_command}
use Rattle.ic_behaviour.specs.State.{State}

-- what the command that a line spells does, or the cause for which it spells none
abbrev pub after_spelled : Options → State → Result Command LineCause → Result (State × List ℕ) LineCause
after_spelled options state (Ok command) = after_command options state command
after_spelled options state (Err cause) = Err cause

-- what a line does to the state and what it prints, or why it is bad
unfoldable pub after_line : Options → State → List ℕ → Result (State × List ℕ) LineCause
after_line options state line = after_spelled options state (command_of line)
