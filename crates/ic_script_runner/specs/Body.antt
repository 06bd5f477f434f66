-- What the whole lines of a script print.
use Rattle.std.specs.Prelude.{ℕ, ◌==◌, List, [], Option, Some, None}
use Rattle.std.specs.List.{filter, list_any}
use Rattle.ic_outside.specs.Limits.{script_limits}
use Rattle.ic_outside.specs.Pieces.{pieces}
use Rattle.ic_options.specs.declared.Options.{Options}
use Rattle.ic_options.specs.Options.{options_of}
use Rattle.ic_script_runner.specs.Walk.{start, walk}

-- the pieces that end with their line feed
unfoldable pub whole_lines : List (List ℕ) → List (List ℕ)
whole_lines = filter (list_any (λ byte. byte == 10))

-- what they print with the options, where the words are accepted; else nothing is read
abbrev pub body_of : Option Options → List ℕ → List ℕ
body_of None bytes = []
body_of (Some options) bytes = (walk script_limits (start options) (whole_lines (pieces bytes))).text

-- what is printed for the whole lines of the bytes
unfoldable pub body : List (List ℕ) → List ℕ → List ℕ
body words bytes = body_of (options_of words) bytes
