-- The way through a script, line by line.
use Rattle.std.specs.Prelude.{ℕ, ◌+◌, ◌++◌, List, [], ◌∷◌, length, Option, Some, None, Result, Ok, Err}
use Rattle.ic_outside.specs.Limits.{Limits, Excess, LongLine, LongScript, excess_of}
use Rattle.ic_outside.specs.Pieces.{line_of}
use Rattle.ic_script.specs.declared.LineCause.{LineCause}
use Rattle.ic_script.specs.declared.LineCause.TheVariants.{LineTooLong, ScriptTooLong}
use Rattle.ic_options.specs.declared.Options.{Options}
use Rattle.ic_script_runner.specs.AfterLine.{after_line}
use Rattle.ic_behaviour.specs.State.{State}
use Rattle.ic_behaviour.specs.Submitted.{empty}

-- where a way is: before the line of this number, after this many bytes of the script
pub record Place : Type 0 where
  pub options : Options
  pub state : State
  pub number : ℕ
  pub offset : ℕ

-- the place before the first line
abbrev pub start : Options → Place
start options = record { options = options; state = empty; number = 1; offset = 0 }

-- the place after a line whose piece of the script has this many bytes
abbrev pub past_line : Place → ℕ → State → Place
past_line at size state = record at { state = state; number = at.number + 1; offset = at.offset + size }

-- a bad line: its number, its cause, and how many bytes of the script show that it is bad
pub record Bad : Type 0 where
  pub line : ℕ
  pub cause : LineCause
  pub stop : ℕ

-- what the lines of a way print, and the state after the last line or the bad line at which it stops
pub record Walk : Type 0 where
  pub text : List ℕ
  pub last : Result State Bad

-- what a line within the limits does, or that it is bad
abbrev pub judge_line : Place → ℕ → Result (State × List ℕ) LineCause → Result (State × List ℕ) Bad
judge_line at size (Ok done) = Ok done
judge_line at size (Err cause) = Err (record { line = at.number; cause = cause; stop = at.offset + size })

-- what a piece of the script does at a place, by the limit that it passes
abbrev pub judge : Limits → Place → List ℕ → Option Excess → Result (State × List ℕ) Bad
judge limits at piece None = judge_line at (length piece) (after_line at.options at.state (line_of piece))
judge limits at piece (Some LongLine) =
    Err (record { line = at.number; cause = LineTooLong; stop = at.offset + limits.line + 1 })
judge limits at piece (Some LongScript) =
    Err (record { line = at.number; cause = ScriptTooLong; stop = limits.script + 1 })

-- a way with a text before what it prints
abbrev pub after_text : List ℕ → Walk → Walk
after_text text way = record { text = text ++ way.text; last = way.last }

-- a step, and the way from there; a bad line is the end
abbrev pub onward : Result (State × List ℕ) Bad → (State → Walk) → Walk
onward (Ok done) rest = after_text done.1 (rest done.0)
onward (Err bad) rest = record { text = []; last = Err bad }

-- the way from a place through the pieces of a script
unfoldable pub walk : Limits → Place → List (List ℕ) → Walk
walk limits at [] = record { text = []; last = Ok at.state }
walk limits at (piece ∷ pieces) =
    onward (judge limits at piece (excess_of limits at.offset piece))
    (λ state. walk limits (past_line at (length piece) state) pieces)
