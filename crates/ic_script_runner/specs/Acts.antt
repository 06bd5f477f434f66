-- What the steps of the top call answer.
use Rattle.std.specs.Prelude.{◌≡◌, ◌⊎◌, ℕ, List, ◌++◌, Result, Ok, Err}
use Rattle.ic_outside.specs.declared.LineFault.{LineFault}
use Rattle.ic_outside.specs.declared.LineFault.TheVariants as fault
use Rattle.ic_script.specs.declared.LineCause.{LineCause}
use Rattle.ic_script.specs.declared.LineCause.TheVariants as cause
use Rattle.ic_script.specs.declared.LineError.{LineError}
use Rattle.ic_script.specs.declared.LineError.TheVariants as error
use Rattle.ic_script_runner.specs.declared.status.Status.{Status}
use Rattle.ic_script_runner.specs.declared.status.Status.TheVariants.{Done, BadWords, BadLine, ReadFault, NoMemory}
use Rattle.ic_script_runner.specs.declared.doing.NotDone.{NotDone}
use Rattle.ic_script_runner.specs.declared.doing.NotDone.TheVariants as undone
use Rattle.ic_options.specs.declared.Options.{Options}
use Rattle.ic_options.specs.Options.{usage_text}
use Rattle.ic_script_runner.specs.EndPart.{end_part}
use Rattle.ic_script_runner.specs.Out.{Output}
use Rattle.ic_script_runner.specs.Sending.{Taken, Sent, Interrupts}
use Rattle.ic_behaviour.specs.State.{State}
use Rattle.ic_output.specs.Texts.{bad_text}
use Rattle.ic_script_runner.specs.Walk.{Bad}

-- a step gives what was said, unless out of memory
abbrev pub Acts : Result (State × List ℕ) LineCause → Result (State × List ℕ) NotDone → Type 0
Acts said (Ok done) = said ≡ Ok done
Acts said (Err (undone.Bad cause)) = said ≡ Err cause
Acts said (Err undone.NoMemory) = Unit {0}

-- what is printed of a bad line, and the status
abbrev pub bad_output : ℕ → LineCause → Output
bad_output line cause = record { bytes = bad_text line cause; status = BadLine line cause }

-- what is printed of refused words, and the status
abbrev pub usage_output : Output
usage_output = record { bytes = usage_text; status = BadWords }

-- what is printed at the end of a script, and the status
abbrev pub end_output : Options → State → Output
end_output options state = record { bytes = end_part options state; status = Done }

-- the output was sent and its status answered, or a status says why not
abbrev pub Concludes : Taken → Taken → Output → Status → Type 0
Concludes old new output status =
    ((status ≡ output.status) × Sent old new output.bytes) ⊎ Interrupts old new output.bytes status

-- an output after what was gathered
abbrev pub after_gathered : List ℕ → Output → Output
after_gathered gathered output = record output { bytes = gathered ++ output.bytes }

-- a line was done and what it prints was gathered, or the status says why the run ends here
abbrev pub DoesAndGathers : Taken → Taken → (gathered left : List ℕ) → ℕ → Result (State × List ℕ) LineCause → Result State Status → Type 0
DoesAndGathers old new gathered left number said (Ok state) =
    (text : List ℕ) × (sent : List ℕ) × (said ≡ Ok (state, text)) × Sent old new sent × (gathered ++ text ≡ sent ++ left)
DoesAndGathers old new gathered left number said (Err status) =
    ((done : State × List ℕ) × (said ≡ Ok done) × Interrupts old new (gathered ++ done.1) status)
    ⊎ ((cause : LineCause) × (said ≡ Err cause) × Concludes old new (after_gathered gathered (bad_output number cause)) status)
    ⊎ Interrupts old new gathered status

-- the state after a line, or that it is bad, unless out of memory
abbrev pub Does : ℕ → Result (State × List ℕ) LineCause → Result State Status → Type 0
Does number said (Ok state) = (text : List ℕ) × (said ≡ Ok (state, text))
Does number said (Err (BadLine line cause)) = (line ≡ number) × (said ≡ Err cause)
Does number said (Err status) = status ≡ NoMemory

-- the state after the last line of a script, or its first bad line, unless out of memory
abbrev pub Ends : Result State Bad → Result State Status → Type 0
Ends last (Ok state) = last ≡ Ok state
Ends last (Err (BadLine line cause)) = (bad : Bad) × (last ≡ Err bad) × (bad.line ≡ line) × (bad.cause ≡ cause)
Ends last (Err status) = status ≡ NoMemory

-- what came of a fault of the reader of lines
abbrev pub Stops : Taken → Taken → (gathered : List ℕ) → LineFault → Status → Type 0
Stops old new gathered (fault.LineTooLong line) status = Concludes old new (after_gathered gathered (bad_output line cause.LineTooLong)) status
Stops old new gathered (fault.ScriptTooLong line) status = Concludes old new (after_gathered gathered (bad_output line cause.ScriptTooLong)) status
Stops old new gathered fault.ReadFault status = (status ≡ ReadFault) × (new ≡ old)
Stops old new gathered fault.NoMemory status = Interrupts old new gathered status

-- what the reader's error means here
abbrev pub not_done : LineError → NotDone
not_done error.Form = undone.Bad cause.Form
not_done error.Principal = undone.Bad cause.Principal
not_done error.Hex = undone.Bad cause.Hex
not_done error.Number = undone.Bad cause.Number
not_done error.Size = undone.Bad cause.Size
not_done error.NoMemory = undone.NoMemory

-- the status with which a fault of the reader of lines ends a run
abbrev pub status_of : LineFault → Status
status_of (fault.LineTooLong line) = BadLine line cause.LineTooLong
status_of (fault.ScriptTooLong line) = BadLine line cause.ScriptTooLong
status_of fault.ReadFault = ReadFault
status_of fault.NoMemory = NoMemory
