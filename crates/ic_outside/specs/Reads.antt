-- What a call for the next line does.
use Rattle.std.specs.Prelude.{◌≡◌, ℕ, ◌+◌, ◌<◌, ◌≤◌, ◌⊎◌, IsTrue, Contains, true, false, List, [], ◌∷◌, ◌++◌, length, Option, Some, None, Result, Ok, Err}
use Rattle.std.specs.Io.KnownBytes.{prepend_known, IsAtEnd}
use Rattle.ic_outside.specs.Limits.{Excess, LongLine, LongScript, excess, excess_of}
use Rattle.ic_outside.specs.Pieces.{HasNoLf, pieces}
use Rattle.ic_outside.specs.LineReader.{LineReader}
use Rattle.ic_outside.specs.declared.lines.Line.{Line}
use Rattle.ic_outside.specs.declared.error.LineFault.{LineFault}
use Rattle.ic_outside.specs.declared.error.LineFault.TheVariants.{ReadFault, LineTooLong, ScriptTooLong, NoMemory}

-- A line is handed out. `seen` are the bytes that were kept and those that this call read.
pub record HandsOut (old : LineReader) (seen : List ℕ) (line : Line) (new : LineReader) : Type 0 where
  -- the line's piece of the script is the front of what was seen, and the rest is kept
  pub piece : List ℕ
  pub front : seen ≡ piece ++ new.kept
  -- it ends with an LF, or it is the last of the script
  pub cut : (piece ≡ line.bytes ++ 10 ∷ []) ⊎ ((piece ≡ line.bytes) × (0 < length piece) × IsTrue new.ended × (new.kept ≡ []))
  pub one_line : HasNoLf line.bytes
  pub fits : excess_of old.limits old.offset piece ≡ None
  pub number : line.number ≡ old.handed + 1
  pub limits : new.limits ≡ old.limits
  pub offset : new.offset ≡ old.offset + length piece
  pub handed : new.handed ≡ old.handed + 1
  pub fault : new.fault ≡ old.fault
  pub still : IsTrue old.ended → IsTrue new.ended
  -- at most that many bytes past the line's end were taken from the source
  pub ahead : length new.kept ≤ 65536

-- A limit is passed: whatever bytes follow what was seen, the first piece of them passes it.
pub record Exceeds (old : LineReader) (seen : List ℕ) (limit : Excess) (line : ℕ) : Type 0 where
  pub passes : (more : List ℕ) → (piece : List ℕ) × (rest : List (List ℕ)) × (pieces (seen ++ more) ≡ piece ∷ rest) × (excess_of old.limits old.offset piece ≡ Some limit)
  pub number : line ≡ old.handed + 1

-- When each answer comes. `left` are the bytes that the source has left, where it tells them.
abbrev pub AnswersBySeen : LineReader → List ℕ → Option (List ℕ) → Result (Option Line) LineFault → LineReader → Type 0
AnswersBySeen old seen left (Ok (Some line)) new = HandsOut old seen line new × (IsTrue new.ended → IsTrue old.ended ⊎ IsAtEnd left)
AnswersBySeen old seen left (Ok None) new = (seen ≡ []) × (new ≡ record old { ended = true }) × (IsTrue old.ended ⊎ IsAtEnd left)
AnswersBySeen old seen left (Err ReadFault) new = HasNoLf seen × (old.ended ≡ false) × (excess old.limits old.offset (length seen) (length seen) ≡ None)
AnswersBySeen old seen left (Err (LineTooLong line)) new = Exceeds old seen LongLine line × (length seen ≤ old.limits.line + 65536)
AnswersBySeen old seen left (Err (ScriptTooLong line)) new = Exceeds old seen LongScript line × (old.offset + length seen ≤ old.limits.script + 65536)
AnswersBySeen old seen left (Err NoMemory) new = Unit {0}

-- What a call read ends with a block of at most 65,536 bytes, and what was kept and read before that
-- block has no LF.
pub record EndsWithBlock (kept read : List ℕ) : Type 0 where
  pub before : List ℕ
  pub block : List ℕ
  pub parts : read ≡ before ++ block
  pub no_lf : HasNoLf (kept ++ before)
  pub size : length block ≤ 65536

-- A call reads bytes from the source, none where its end was given, and answers by what it has seen.
-- It reads again only where no whole line is kept.
pub record Reads (old : LineReader) (left_before left : Option (List ℕ)) (result : Result (Option Line) LineFault) (new : LineReader) : Type 0 where
  pub read : List ℕ
  pub taken : left_before ≡ prepend_known read left
  pub over : IsTrue old.ended → read ≡ []
  pub kept : Contains old.kept 10 → read ≡ []
  pub last_block : 0 < length read → EndsWithBlock old.kept read
  pub answers : AnswersBySeen old (old.kept ++ read) left result new
