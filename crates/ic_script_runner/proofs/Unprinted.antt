-- The way through a script of which nothing is printed.
use Rattle.std.proofs.Common.{◌≡◌, ◌≢◌, ℕ, ◌+◌, ◌<◌, ◌≤◌, List, [], ◌++◌, refl, sym, ap, ◌∙◌, Option, Some, None, Result, Ok, Err}
use Rattle.ic_outside.specs.LineReader.{LineReader}
use Rattle.ic_outside.specs.Reads.{Reads}
use Rattle.ic_outside.specs.Limits.{LongLine, LongScript}
use Rattle.ic_outside.specs.declared.Line.{Line}
use Rattle.ic_outside.specs.declared.LineFault.{LineFault}
use Rattle.ic_outside.specs.declared.LineFault.TheVariants as fault
use Rattle.ic_script.specs.declared.LineCause.TheVariants.{LineTooLong, ScriptTooLong}
use Rattle.ic_options.specs.declared.Options.{Options}
use Rattle.ic_behaviour.specs.State.{State}
use Rattle.ic_script_runner.specs.declared.status.Status.{Status}
use Rattle.ic_script_runner.specs.declared.status.Status.TheVariants.{Done, BadWords, BadLine, ReadFault, WriteFault, NoMemory}
use Rattle.ic_script_runner.specs.Acts.{Does, Ends, status_of}
use Rattle.ic_script_runner.specs.AfterLine.{after_line}
use Rattle.ic_script_runner.specs.Script.{walk_of}
use Rattle.ic_script_runner.specs.Sending.{Taken}
use Rattle.ic_script_runner.specs.Walk.{Walk}
use Rattle.ic_script_runner.proofs.Runs.{Runs, Runs-more, further, nothing_left, script_is, way-bad, way-end, way-excess}
use Rattle.ic_script_runner.proofs.SendLaws.{Sent-nil}

-- a sink to which nothing is sent
abbrev pub nowhere : Taken
nowhere = record { bytes = None; fits = None; faults = 0 }

-- before each line: what would be printed so far is kept for the proof alone
pub record Walks (options : Options) (script left : List ℕ) (state : State) (reader : LineReader) : Type 0 where
  pub printed : List ℕ
  pub runs : Runs options (Some script) (Some left) nowhere nowhere state reader printed

module _ (options : Options) (script left left_after : List ℕ) (state : State) (old new : LineReader) (walks : Walks options script left state old) where
  -- a good line
  pub Walks-more : (line : Line) (next : State) → Reads old (Some left) (Some left_after) (Ok (Some line)) new → Does line.number (after_line options state line.bytes) (Ok next)
      → Walks options script left_after next new
  Walks-more line next reads does = record {
    printed = walks.printed ++ does.0;
    runs = Runs-more options (Some script) (Some left) (Some left_after) nowhere nowhere nowhere state old new walks.printed walks.runs
        reads.read reads.taken reads.over line reads.answers.0 reads.answers.1 next (walks.printed ++ does.0) does.0 [] does.1 (Sent-nil nowhere) refl;
  }

  -- each line takes the reader on
  pub Walks-further : (line : Line) → Reads old (Some left) (Some left_after) (Ok (Some line)) new → (new.offset ≤ 268435456) × (old.offset < new.offset)
  Walks-further line reads =
      further options (Some script) (Some left) (Some left_after) nowhere nowhere nowhere state old new walks.printed walks.runs reads.read reads.taken reads.over line reads.answers.0 reads.answers.1

  -- the script is what was read and what is left
  whole : {r : Result (Option Line) LineFault} → (reads : Reads old (Some left) (Some left_after) r new) → script ≡ (walks.runs.handed ++ (old.kept ++ reads.read)) ++ left_after
  whole reads =
      script_is options (Some script) (Some left) (Some left_after) nowhere nowhere nowhere state old new walks.printed walks.runs reads.read reads.taken reads.over script refl

  last_of : (text : List ℕ) (way : Walk) → script ≡ text → walk_of options text ≡ way → (walk_of options script).last ≡ way.last
  last_of text way is through = ap (λ t. (walk_of options t).last) is ∙ ap (λ (w : Walk). w.last) through

  -- the end of the script
  pub Walks-end : Reads old (Some left) (Some left_after) (Ok None) new → Ends (walk_of options script).last (Ok state)
  Walks-end reads =
      let nothing = nothing_left options (Some script) (Some left) (Some left_after) nowhere nowhere nowhere state old new walks.printed walks.runs reads.read reads.taken reads.over reads.answers.2 in
      last_of _ _ (whole reads)
      (way-end options (Some script) (Some left) (Some left_after) nowhere nowhere nowhere state old new walks.printed walks.runs reads.read reads.taken reads.over reads.answers.0 nothing)

  -- a bad line
  pub Walks-stopped : (line : Line) (status : Status) → Reads old (Some left) (Some left_after) (Ok (Some line)) new → Does line.number (after_line options state line.bytes) (Err status)
      → Ends (walk_of options script).last (Err status)
  Walks-stopped line (BadLine number cause) reads does = (
    record { line = old.handed + 1; cause = cause; stop = _ },
    last_of _ _ (whole reads)
        (way-bad options (Some script) (Some left) (Some left_after) nowhere nowhere nowhere state old new walks.printed walks.runs reads.read reads.taken reads.over line reads.answers.0 reads.answers.1 cause does.1),
    sym (does.0 ∙ reads.answers.0.number),
    refl,
  )
  Walks-stopped line Done reads does = does
  Walks-stopped line BadWords reads does = does
  Walks-stopped line ReadFault reads does = does
  Walks-stopped line WriteFault reads does = does
  Walks-stopped line NoMemory reads does = does

  -- the reader answered a fault
  pub Walks-fault : (found : LineFault) → Reads old (Some left) (Some left_after) (Err found) new → found ≢ fault.ReadFault → Ends (walk_of options script).last (Err (status_of found))
  Walks-fault fault.ReadFault reads other = absurd (other refl)
  Walks-fault fault.NoMemory reads other = refl
  Walks-fault (fault.LineTooLong line) reads other = (
    record { line = old.handed + 1; cause = LineTooLong; stop = _ },
    last_of _ _ (whole reads)
        (way-excess options (Some script) (Some left) (Some left_after) nowhere nowhere nowhere state old new walks.printed walks.runs reads.read reads.taken reads.over line LongLine LineTooLong (old.offset + 8388608 + 1) reads.answers.0 (λ p. refl)),
    sym reads.answers.0.number,
    refl,
  )
  Walks-fault (fault.ScriptTooLong line) reads other = (
    record { line = old.handed + 1; cause = ScriptTooLong; stop = _ },
    last_of _ _ (whole reads)
        (way-excess options (Some script) (Some left) (Some left_after) nowhere nowhere nowhere state old new walks.printed walks.runs reads.read reads.taken reads.over line LongScript ScriptTooLong (268435456 + 1) reads.answers.0 (λ p. refl)),
    sym reads.answers.0.number,
    refl,
  )
