-- What the steps of reading a line do.
use Rattle.std.specs.Prelude.{◌≡◌, ℕ, ◌+◌, ◌<◌, ◌≤◌, ◌⊎◌, IsTrue, Bool, false, Some, List, [], ◌∷◌, ◌++◌, drop, length, Option}
use Rattle.std.specs.Io.KnownBytes.{prepend_known, IsAtEnd}
use Rattle.ic_outside.specs.Limits.{Excess, LongLine, LongScript}
use Rattle.ic_outside.specs.Pieces.{HasNoLf}
use Rattle.ic_outside.specs.LineReader.{LineReader}
use Rattle.ic_outside.specs.declared.error.LineFault.{LineFault}
use Rattle.ic_outside.specs.declared.error.LineFault.TheVariants.{ReadFault, LineTooLong, ScriptTooLong, NoMemory}

-- the bytes begin with a line of n bytes and its LF
pub record BeginsWithLine (bytes : List ℕ) (n : ℕ) : Type 0 where
  pub line : List ℕ
  pub rest : List ℕ
  pub whole : bytes ≡ line ++ 10 ∷ rest
  pub one_line : HasNoLf line
  pub len : length line ≡ n

-- the fault for a limit that the line with this number passes
abbrev pub fault_of : Excess → ℕ → LineFault
fault_of LongLine number = LineTooLong number
fault_of LongScript number = ScriptTooLong number

-- the fault is the one for the limit that is passed
abbrev pub IsFaultOf : Option Excess → ℕ → LineFault → Type 0
IsFaultOf passed number fault = (limit : Excess) × (passed ≡ Some limit) × (fault ≡ fault_of limit number)

-- at most one block was read past what the limits allow
pub record IsNear (reader : LineReader) : Type 0 where
  pub line : length reader.kept ≤ reader.limits.line + 65536
  pub script : reader.offset + length reader.kept ≤ reader.limits.script + 65536
  pub inside : reader.offset ≤ reader.limits.script

-- a reader after a piece of that many bytes was handed out
abbrev pub handed_out : LineReader → ℕ → LineReader
handed_out reader piece = record reader {
  kept = drop piece reader.kept;
  offset = reader.offset + piece;
  handed = reader.handed + 1;
}

-- a block is taken at the first read
abbrev pub IsBlock : ℕ → Type 0
IsBlock len = (len ≡ 0) ⊎ (len ≡ 65536)

-- one read more: it gave bytes, or the end
pub record Filled (old : LineReader) (left_before left : Option (List ℕ)) (source_ended : Bool) (new : LineReader) : Type 0 where
  pub read : List ℕ
  pub ended : Bool
  pub taken : left_before ≡ prepend_known read left
  pub reader : new ≡ record old { kept = old.kept ++ read; ended = ended }
  pub size : length read ≤ 65536
  pub some : (ended ≡ false) → 0 < length read
  pub at_end : IsTrue ended → IsAtEnd left × IsTrue source_ended

-- one read more failed, or found no memory for what it gave
pub record Unfilled (left_before left : Option (List ℕ)) (fault : LineFault) : Type 0 where
  pub read : List ℕ
  pub taken : left_before ≡ prepend_known read left
  pub size : length read ≤ 65536
  pub cause : (fault ≡ NoMemory) ⊎ ((fault ≡ ReadFault) × (read ≡ []))
