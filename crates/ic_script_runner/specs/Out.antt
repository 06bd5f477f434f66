-- The whole answer to a command line and a script.
use Rattle.std.specs.Prelude.{ℕ, ◌++◌, List, Option, Some, None, Result, Ok, Err}
use Rattle.ic_options.specs.declared.Options.{Options}
use Rattle.ic_script_runner.specs.declared.status.Status.{Status}
use Rattle.ic_script_runner.specs.declared.status.Status.TheVariants.{Done, BadWords, BadLine}
use Rattle.ic_script_runner.specs.EndPart.{end_part, short_end_part}
use Rattle.ic_options.specs.Options.{options_of, usage_text}
use Rattle.ic_script_runner.specs.Script.{script_for, walk_of}
use Rattle.ic_behaviour.specs.State.{State}
use Rattle.ic_output.specs.Texts.{bad_text}
use Rattle.ic_script_runner.specs.Walk.{Bad, Walk}

-- what is printed, and the status
pub record Output : Type 0 where
  pub bytes : List ℕ
  pub status : Status

-- the end of a way: the end part, or the bad line
abbrev pub ended_output : Options → List ℕ → Result State Bad → Output
ended_output options text (Ok state) = record { bytes = text ++ end_part options state; status = Done }
ended_output options text (Err bad) = record { bytes = text ++ bad_text bad.line bad.cause; status = BadLine bad.line bad.cause }

-- the end of a way through a generated script, whose lines print nothing: the short end part, or the bad line
abbrev pub short_output : Options → Result State Bad → Output
short_output options (Ok state) = record { bytes = short_end_part options state; status = Done }
short_output options (Err bad) = record { bytes = bad_text bad.line bad.cause; status = BadLine bad.line bad.cause }

-- the answer that a way through a script makes; the number is that of a generated one
abbrev pub output_of : Option ℕ → Options → Walk → Output
output_of None options way = ended_output options way.text way.last
output_of (Some n) options way = short_output options way.last

-- the answer to the script that runs with the options, or the usage line where the words are refused
abbrev pub out_of : Option Options → List ℕ → Output
out_of None bytes = record { bytes = usage_text; status = BadWords }
out_of (Some options) bytes = output_of options.generate options (walk_of options (script_for options.generate bytes))

-- the answer to the words and the bytes of the source
unfoldable pub out : List (List ℕ) → List ℕ → Output
out words bytes = out_of (options_of words) bytes
