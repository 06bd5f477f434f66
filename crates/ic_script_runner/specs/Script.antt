-- The lines of a script.
use Rattle.std.specs.Prelude.{ℕ, List, [], map, take, length, Option, Some, None, Result, Ok, Err}
use Rattle.std.specs.List.{enumerate_from}
use Rattle.ic_outside.specs.Limits.{script_limits}
use Rattle.ic_outside.specs.Pieces.{pieces, line_of}
use Rattle.ic_options.specs.declared.Options.{Options}
use Rattle.ic_options.specs.Options.{options_of}
use Rattle.ic_generate.specs.Script.{script as generated}
use Rattle.ic_behaviour.specs.State.{State}
use Rattle.ic_script_runner.specs.Walk.{Bad, Walk, start, walk}

-- how many of this many lines there are up to the first bad one
abbrev pub lines_until : ℕ → Result State Bad → ℕ
lines_until all (Ok state) = all
lines_until all (Err bad) = bad.line

-- the script that runs: the bytes that are read, or the one that a number makes
abbrev pub script_for : Option ℕ → List ℕ → List ℕ
script_for None bytes = bytes
script_for (Some n) bytes = generated n

-- the way through a script
unfoldable pub walk_of : Options → List ℕ → Walk
walk_of options script = walk script_limits (start options) (pieces script)

-- the numbered lines of a script up to the first bad one
abbrev pub lines_of : Options → List ℕ → List (ℕ × List ℕ)
lines_of options script =
    take (lines_until (length (pieces script)) (walk_of options script).last) (enumerate_from 1 (map line_of (pieces script)))

-- the numbered lines of the script that runs, where the words are accepted; else there is none
abbrev pub script_of : Option Options → List ℕ → List (ℕ × List ℕ)
script_of None bytes = []
script_of (Some options) bytes = lines_of options (script_for options.generate bytes)

-- the lines of the script with their numbers from 1, up to the first bad one
unfoldable pub script : List (List ℕ) → List ℕ → List (ℕ × List ℕ)
script words bytes = script_of (options_of words) bytes
