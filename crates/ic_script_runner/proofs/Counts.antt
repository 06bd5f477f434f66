-- The counts of faults at the end of a run.
use Rattle.std.proofs.Common.{◌≡◌, ◌≢◌, ℕ, ◌^◌, ◌<◌, ◌≤◌, List, [], ◌++◌, refl, sym, ap, subst, ◌∙◌, Result, Ok, Err, inl, inr, arith}
use Rattle.ic_behaviour.specs.State.{State}
use Rattle.ic_outside.specs.Faults.{count_after_line}
use Rattle.ic_outside.specs.declared.LineFault.{LineFault}
use Rattle.ic_outside.specs.declared.LineFault.TheVariants as fault
use Rattle.ic_script.specs.declared.LineCause.{LineCause}
use Rattle.ic_script_runner.specs.declared.status.Status.{Status}
use Rattle.ic_script_runner.specs.declared.status.Status.TheVariants.{Done, BadWords, BadLine, ReadFault, WriteFault, NoMemory}
use Rattle.ic_script_runner.specs.Acts.{Concludes, DoesAndGathers, Stops, bad_output, after_gathered}
use Rattle.ic_script_runner.specs.Counts.{source_count_after, sink_count_after}
use Rattle.ic_script_runner.specs.EndPart.{short_end_part}
use Rattle.ic_script_runner.specs.Out.{Output, short_output}
use Rattle.ic_script_runner.specs.Walk.{Bad}
use Rattle.ic_options.specs.declared.Options.{Options}
use Rattle.ic_script_runner.specs.Sending.{Taken, Interrupts}

-- a status that tells no fault of a sink
pub sink_count_after-same : (n : ℕ) (status : Status) → status ≢ WriteFault → sink_count_after n status ≡ n
sink_count_after-same n Done ne = refl
sink_count_after-same n BadWords ne = refl
sink_count_after-same n (BadLine line cause) ne = refl
sink_count_after-same n ReadFault ne = refl
sink_count_after-same n WriteFault ne = absurd (ne refl)
sink_count_after-same n NoMemory ne = refl

-- a count never falls
pub sink_count_after-later : (n : ℕ) (status : Status) → n < 2 ^ 64 → n ≤ sink_count_after n status
sink_count_after-later n Done fits = omega arith
sink_count_after-later n BadWords fits = omega arith
sink_count_after-later n (BadLine line cause) fits = omega arith
sink_count_after-later n ReadFault fits = omega arith
sink_count_after-later n WriteFault fits = omega arith
sink_count_after-later n NoMemory fits = omega arith

-- a status that tells no fault of a stream
abbrev pub TellsNone : Status → Type 0
TellsNone status = (n : ℕ) → (sink_count_after n status ≡ n) × (source_count_after n status ≡ n)

-- a sink's count is as the status says, and the status tells no fault of a source
abbrev pub IsSinkCount : Taken → Taken → Status → Type 0
IsSinkCount old new status = (new.faults ≡ sink_count_after old.faults status) × ((n : ℕ) → source_count_after n status ≡ n)

pub Interrupts-counted : (old new : Taken) (text : List ℕ) (status : Status) → Interrupts old new text status → IsSinkCount old new status
Interrupts-counted old new text status interrupted = elim interrupted.cause [
  | inl broke ↦ subst (IsSinkCount old new) (sym broke.0) (broke.1.counted, λ n. refl)
  | inr ran_out ↦ subst (IsSinkCount old new) (sym ran_out.0) (ran_out.1.sent.counted, λ n. refl)
]

pub Concludes-counted : (old new : Taken) (output : Output) (status : Status) → TellsNone output.status → Concludes old new output status → IsSinkCount old new status
Concludes-counted old new output status none concludes = elim concludes [
  | inl sent ↦ subst (IsSinkCount old new) (sym sent.0) (sent.1.counted ∙ sym (none old.faults).0, λ n. (none n).1)
  | inr interrupted ↦ Interrupts-counted old new output.bytes status interrupted
]

-- at the end of a script
pub Done-counted : (old new : Taken) (bytes : List ℕ) (status : Status) → Concludes old new (record { bytes = bytes; status = Done }) status → IsSinkCount old new status
Done-counted old new bytes status = Concludes-counted old new (record { bytes = bytes; status = Done }) status (λ n. (refl, refl))

-- at a bad line
BadLine-counted : (old new : Taken) (gathered : List ℕ) (line : ℕ) (cause : LineCause) (status : Status)
    → Concludes old new (after_gathered gathered (bad_output line cause)) status → IsSinkCount old new status
BadLine-counted old new gathered line cause status =
    Concludes-counted old new (after_gathered gathered (bad_output line cause)) status (λ n. (refl, refl))

-- at the end of a generated script, or its bad line
pub short-counted : (old new : Taken) (options : Options) (last : Result State Bad) (status : Status) → Concludes old new (short_output options last) status → IsSinkCount old new status
short-counted old new options (Ok state) status = Done-counted old new (short_end_part options state) status
short-counted old new options (Err bad) status = BadLine-counted old new [] bad.line bad.cause status

-- at a line that ends a run
pub DoesAndGathers-counted : (old new : Taken) (gathered left : List ℕ) (number : ℕ) (said : Result (State × List ℕ) LineCause) (status : Status)
    → DoesAndGathers old new gathered left number said (Err status) → IsSinkCount old new status
DoesAndGathers-counted old new gathered left number said status (inl done) = Interrupts-counted old new (gathered ++ done.0.1) status done.2
DoesAndGathers-counted old new gathered left number said status (inr (inl bad)) = BadLine-counted old new gathered number bad.0 status bad.2
DoesAndGathers-counted old new gathered left number said status (inr (inr interrupted)) = Interrupts-counted old new gathered status interrupted

-- where there is no next line
pub Stops-counted : (old new : Taken) (gathered : List ℕ) (f : LineFault) (status : Status) → Stops old new gathered f status
    → (new.faults ≡ sink_count_after old.faults status) × ((n : ℕ) → source_count_after n status ≡ count_after_line {T = Status} n (Err f))
Stops-counted old new gathered (fault.LineTooLong line) status stops = BadLine-counted old new gathered line _ status stops
Stops-counted old new gathered (fault.ScriptTooLong line) status stops = BadLine-counted old new gathered line _ status stops
Stops-counted old new gathered fault.ReadFault status stops =
    let P = λ (s : Status). (new.faults ≡ sink_count_after old.faults s) × ((n : ℕ) → source_count_after n s ≡ count_after_line {T = Status} n (Err fault.ReadFault)) in
    subst P (sym stops.0) (ap (λ (t : Taken). t.faults) stops.1, λ n. refl)
Stops-counted old new gathered fault.NoMemory status stops = Interrupts-counted old new gathered status stops
