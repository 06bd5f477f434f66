-- The run that a script makes.
use Rattle.std.specs.Prelude.{ℕ, ◌++◌, List, [], ◌∷◌, length, Option, Some, None, Result, Ok, Err, unwrap_or}
use Rattle.ic_outside.specs.Limits.{Limits, script_limits, excess_of}
use Rattle.ic_outside.specs.Pieces.{pieces, line_of}
use Rattle.ic_script.specs.Line.{command_of}
use Rattle.ic_script.specs.declared.Command.{Command}
use Rattle.ic_script.specs.declared.LineCause.{LineCause}
use Rattle.ic_behaviour.specs.State.{State}
use Rattle.ic_behaviour.specs.Steps.{Rules}
use Rattle.ic_behaviour.specs.Runs.{Act}
use Rattle.ic_options.specs.declared.Options.{Options}
use Rattle.ic_script_runner.specs.AfterCommand.{acts_of, acts_of_rounds}
use Rattle.ic_script_runner.specs.Options.{default_options, rules_of}
use Rattle.ic_options.specs.Options.{options_of}
use Rattle.ic_script_runner.specs.Script.{script_for}
use Rattle.ic_script_runner.specs.Walk.{Place, Bad, start, past_line, judge}

abbrev pub acts_of_spelled : Options → State → Result Command LineCause → List Act
acts_of_spelled options state (Ok command) = acts_of options state command
acts_of_spelled options state (Err cause) = []

-- what a line makes happen
abbrev pub acts_of_line : Options → State → List ℕ → List Act
acts_of_line options state line = acts_of_spelled options state (command_of line)

-- a line's acts and those after it; a bad line makes nothing happen and is the end
abbrev pub acting : List Act → Result (State × List ℕ) Bad → (State → List Act) → List Act
acting acts (Ok done) rest = acts ++ rest done.0
acting acts (Err bad) rest = []

-- what the pieces of a script make happen from a place on, and the rounds at its end
unfoldable pub acts_from : Limits → Place → List (List ℕ) → List Act
acts_from limits at [] = acts_of_rounds at.options at.options.rounds at.state
acts_from limits at (piece ∷ pieces) =
    acting (acts_of_line at.options at.state (line_of piece)) (judge limits at piece (excess_of limits at.offset piece))
    (λ state. acts_from limits (past_line at (length piece) state) pieces)

-- what the script makes happen that runs with the options; where the words are refused nothing happens
abbrev pub trace_of : Option Options → List ℕ → List Act
trace_of None bytes = []
trace_of (Some options) bytes = acts_from script_limits (start options) (pieces (script_for options.generate bytes))

-- the acts of the run that the words and the bytes of the source make
unfoldable pub trace : List (List ℕ) → List ℕ → List Act
trace words bytes = trace_of (options_of words) bytes

-- the rules of that run
abbrev pub rules : List (List ℕ) → Rules
rules words = rules_of (unwrap_or (options_of words) default_options)
