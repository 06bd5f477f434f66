-- What is printed at the end of a script.
use Rattle.std.specs.Prelude.{ℕ, ◌+◌, ◌++◌, List, [], ◌∷◌}
use Rattle.ic_behaviour.specs.declared.request.Request.{Request}
use Rattle.ic_behaviour.specs.State.{State}
use Rattle.ic_options.specs.declared.Options.{Options}
use Rattle.ic_script_runner.specs.AfterCommand.{after_rounds}
use Rattle.ic_output.specs.Texts.{answer_text, calls_line, closing}

-- the answers to requests, the first of which has this number
unfoldable pub answers_from : ℕ → List Request → List ℕ
answers_from number [] = []
answers_from number (request ∷ requests) = answer_text number request.answer ++ answers_from (number + 1) requests

-- the state after the rounds that are made at the end
abbrev pub end_state : Options → State → State
end_state options state = after_rounds options options.rounds state

-- rounds are made, and then each call's answer is printed, in order, and the state
abbrev pub end_part : Options → State → List ℕ
end_part options state = answers_from 0 (end_state options state).requests ++ closing (end_state options state)

-- the end part of a generated script, whose answers are only counted
abbrev pub short_end_part : Options → State → List ℕ
short_end_part options state = calls_line (end_state options state).requests ++ closing (end_state options state)
