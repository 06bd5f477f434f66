-- What the top call answers, and what it did to its ends.
use Rattle.std.specs.Prelude.{◌≡◌, ◌≢◌, ℕ, ◌+◌, ◌≤◌, ◌⊎◌, List, [], ◌++◌, length, unwrap_or, Option, Some, None, IfSome, Result, Ok, Err}
use Rattle.std.specs.Io.KnownBytes.{prepend_known, append_known}
use Rattle.ic_outside.specs.Given.{IsFront}
use Rattle.ic_outside.specs.Writing.{room_before}
use Rattle.ic_options.specs.declared.Options.{Options}
use Rattle.ic_script_runner.specs.declared.status.Status.{Status}
use Rattle.ic_script_runner.specs.declared.status.Status.TheVariants.{Done, BadWords, BadLine, ReadFault, WriteFault, NoMemory}
use Rattle.ic_script_runner.specs.Body.{body}
use Rattle.ic_script_runner.specs.Counts.{sink_count_after}
use Rattle.ic_options.specs.Options.{options_of}
use Rattle.ic_script_runner.specs.Out.{Output, out}
use Rattle.ic_script_runner.specs.Script.{script, script_for, walk_of}
use Rattle.ic_script_runner.specs.Sending.{Taken}
use Rattle.ic_behaviour.specs.State.{State}
use Rattle.ic_script_runner.specs.Walk.{Bad}

-- how many bytes show the bad line at which a way stops
abbrev pub stop_of : Result State Bad → ℕ
stop_of (Ok state) = 0
stop_of (Err bad) = bad.stop

-- how many bytes show the bad line of the script that runs with the options, where the words are accepted
abbrev pub bad_stop_of : Option Options → List ℕ → ℕ
bad_stop_of None bytes = 0
bad_stop_of (Some options) bytes = stop_of (walk_of options (script_for options.generate bytes)).last

-- how many bytes of a script show that it has a bad line, and 0 where it has none
unfoldable pub bad_stop : List (List ℕ) → List ℕ → ℕ
bad_stop words bytes = bad_stop_of (options_of words) bytes

-- the number of the generated script that the words ask for, if they ask for one
abbrev pub generated_by : Option Options → Option ℕ
generated_by None = None
generated_by (Some options) = options.generate

-- what holds of a source that is the script; where the script is generated nothing is read
abbrev pub OfSource : Option ℕ → List ℕ → Type 0 → Type 0
OfSource None read holds = holds
OfSource (Some n) read holds = read ≡ []

-- What each status says of the bytes that were read, those that were left, and the text that was
-- sent.
abbrev pub Explains : List (List ℕ) → Status → List ℕ → List ℕ → List ℕ → Type 0
Explains words Done read rest text =
    (out words (read ++ rest) ≡ record { bytes = text; status = Done })
    × OfSource (generated_by (options_of words)) read (rest ≡ [])
Explains words BadWords read rest text =
    (out words (read ++ rest) ≡ record { bytes = text; status = BadWords }) × (read ≡ [])
Explains words (BadLine line cause) read rest text =
    (out words (read ++ rest) ≡ record { bytes = text; status = BadLine line cause })
    × (line ≡ length (script words (read ++ rest)))
    × OfSource (generated_by (options_of words)) read
    ((bad_stop words (read ++ rest) ≤ length read) × (length read ≤ bad_stop words (read ++ rest) + 65536))
Explains words ReadFault read rest text =
    (text ≡ body words read) × IsFront text (out words (read ++ rest)).bytes
    × (options_of words ≢ None) × (generated_by (options_of words) ≡ None)
Explains words WriteFault read rest text = IsFront text (out words (read ++ rest)).bytes
Explains words NoMemory read rest text = IsFront text (out words (read ++ rest)).bytes

-- The bytes left, or none where the source does not tell them.
abbrev pub rest_of : Option (List ℕ) → List ℕ
rest_of left = unwrap_or left []

-- A call read bytes from the source and sent a text to the sink, as its status says, and the sink's count of faults is
-- one more exactly at `WriteFault`. A room that the sink tells fell by the text's length, and where the whole answer fits in it, the sink did not fail.
pub record Explained (words : List (List ℕ)) (left_before left : Option (List ℕ)) (before after : Taken) (status : Status) : Type 0 where
  pub read : List ℕ
  pub text : List ℕ
  pub was_read : left_before ≡ prepend_known read left
  pub was_sent : after.bytes ≡ append_known before.bytes text
  pub fell : before.fits ≡ room_before (length text) after.fits
  pub explains : Explains words status read (rest_of left) text
  pub counted : after.faults ≡ sink_count_after before.faults status
  pub fitting : IfSome before.fits (λ room. length (out words (read ++ rest_of left)).bytes ≤ room
      → (after.faults ≡ before.faults) × (status ≢ WriteFault))

-- The sink took the output and the status is its status, or it is out of memory.
abbrev pub GivesOutput : Output → Option (List ℕ) → Option (List ℕ) → Status → Type 0
GivesOutput output before after status =
    (status ≡ NoMemory) ⊎ ((status ≡ output.status) × (after ≡ append_known before output.bytes))
