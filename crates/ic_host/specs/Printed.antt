-- The run is the run of what is printed: the same pieces of a script make both, one after another.
use Rattle.std.specs.Prelude.{◌≡◌, ℕ, ◌+◌, ◌++◌, List, [], ◌∷◌, length, Option, Some, None, Result, Ok, Err}
use Rattle.std.specs.List.{concat}
use Rattle.ic_outside.specs.Given.{IsFront}
use Rattle.ic_outside.specs.Limits.{script_limits, excess_of}
use Rattle.ic_outside.specs.Pieces.{pieces, line_of}
use Rattle.ic_script.specs.Line.{command_of}
use Rattle.ic_script.specs.declared.Command.{Command}
use Rattle.ic_behaviour.specs.State.{State}
use Rattle.ic_behaviour.specs.Runs.{Act, last_state}
use Rattle.ic_options.specs.declared.Options.{Options}
use Rattle.ic_options.specs.Options.{options_of}
use Rattle.ic_output.specs.Texts.{bad_text, calls_line, closing}
use Rattle.ic_script_runner.specs.declared.status.Status.TheVariants.{Done, BadLine}
use Rattle.ic_script_runner.specs.AfterCommand.{acts_of, acts_of_rounds, text_of}
use Rattle.ic_script_runner.specs.EndPart.{answers_from, end_state}
use Rattle.ic_script_runner.specs.Out.{out}
use Rattle.ic_script_runner.specs.Script.{script_for}
use Rattle.ic_script_runner.specs.Walk.{Bad, Walk, start, judge, walk}
use Rattle.ic_host.specs.Trace.{rules, trace}

-- the way through the first pieces of a script
abbrev pub way : Options → List (List ℕ) → Walk
way options front = walk script_limits (start options) front

-- what a piece does after these, where they lead to a state, or that it is bad there
abbrev pub judged : Options → List (List ℕ) → State → List ℕ → Result (State × List ℕ) Bad
judged options front state piece =
    judge script_limits (record { options = options; state = state; number = length front + 1; offset = length (concat front) })
    piece (excess_of script_limits (length (concat front)) piece)

-- what the output has of the text of lines: of a generated script, nothing
abbrev pub lines_shown : Option ℕ → List ℕ → List ℕ
lines_shown None text = text
lines_shown (Some n) text = []

-- how the output ends with a state: the answers to calls, in a generated script their counts, and the state
abbrev pub state_shown : Option ℕ → State → List ℕ
state_shown None state = answers_from 0 state.requests ++ closing state
state_shown (Some n) state = calls_line state.requests ++ closing state

-- the script that runs is cut; the pieces in front have no bad line, and lead to a state
pub record Cut (options : Options) (bytes : List ℕ) (front back : List (List ℕ)) (state : State) : Type 0 where
  pub whole : pieces (script_for options.generate bytes) ≡ front ++ back
  pub leads : (way options front).last ≡ Ok state

-- The pieces in front of each cut have acts, and the run begins with these.
pub record PrintedRun (words : List (List ℕ)) (bytes : List ℕ) (options : Options) : Type 0 where
  pub acts : List (List ℕ) → List Act
  pub none : acts [] ≡ []
  -- they lead to the state of the way, and the output begins with the text of the way
  pub state : (front back : List (List ℕ)) (s : State) → Cut options bytes front back s → s ≡ last_state (rules words) (acts front)
  pub text : (front back : List (List ℕ)) (s : State) → Cut options bytes front back s
      → IsFront (lines_shown options.generate (way options front).text) (out words bytes).bytes
  -- a good piece spells a command: its acts come next in the run, and its text in the way, both by the state before them
  pub good : (front back : List (List ℕ)) (piece : List ℕ) (s : State) (done : State × List ℕ)
      → Cut options bytes front (piece ∷ back) s → judged options front s piece ≡ Ok done
      → (command : Command) × (rest : List Act) × (command_of (line_of piece) ≡ Ok command)
      × (acts (front ++ piece ∷ []) ≡ acts front ++ acts_of options s command)
      × (trace words bytes ≡ acts front ++ (acts_of options s command ++ rest))
      × (way options (front ++ piece ∷ []) ≡ record { text = (way options front).text ++ text_of options s command; last = Ok done.0 })
  -- with a bad piece the run and the output end
  pub bad : (front back : List (List ℕ)) (piece : List ℕ) (s : State) (bad : Bad)
      → Cut options bytes front (piece ∷ back) s → judged options front s piece ≡ Err bad
      → (trace words bytes ≡ acts front)
      × (out words bytes ≡ record {
        bytes = lines_shown options.generate (way options front).text ++ bad_text bad.line bad.cause;
        status = BadLine bad.line bad.cause;
      })
  -- after all pieces come the rounds at the end, and the last state of the run is shown
  pub ended : (front : List (List ℕ)) (s : State) → Cut options bytes front [] s
      → (trace words bytes ≡ acts front ++ acts_of_rounds options options.rounds s)
      × (end_state options s ≡ last_state (rules words) (trace words bytes))
      × (out words bytes ≡ record {
        bytes = lines_shown options.generate (way options front).text
            ++ state_shown options.generate (last_state (rules words) (trace words bytes));
        status = Done;
      })
  -- it is shown wherever the status is Done
  pub done : (out words bytes).status ≡ Done
      → (text : List ℕ) × ((out words bytes).bytes ≡ text ++ state_shown options.generate (last_state (rules words) (trace words bytes)))

-- so of all words that are accepted
abbrev pub RunIsPrinted : List (List ℕ) → List ℕ → Type 0
RunIsPrinted words bytes = (options : Options) → options_of words ≡ Some options → PrintedRun words bytes options

-- both lists of words are accepted, and ask for the same but for the workers
abbrev pub ButForWorkers : (words other : List (List ℕ)) → Type 0
ButForWorkers words other =
    (mine : Options) × (theirs : Options) × (options_of words ≡ Some mine) × (options_of other ≡ Some theirs)
    × (record mine { workers = theirs.workers } ≡ theirs)
