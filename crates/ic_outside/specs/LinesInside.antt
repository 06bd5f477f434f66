-- The fields of a reader of lines.
use Rattle.std.specs.Prelude.{◌+◌, ◌-◌, ◌^◌, ◌<◌, ◌≤◌, length, take, vec_len}
use Rattle.ic_outside.specs.Pieces.{HasNoLf}
use Rattle.ic_outside.specs.LineReader.{LineReader}
use Rattle.ic_outside.specs.Steps.{IsBlock}
use Rattle.ic_outside.specs.declared.lines.Lines.TheInside.{Inside}

-- what a reader of lines shows
abbrev pub reader_of : Inside → LineReader
reader_of l = record {
  limits = record { line = l.largest_line; script = l.largest_script };
  kept = l.kept;
  offset = l.offset;
  handed = l.handed;
  ended = l.ended;
  fault = l.fault;
}

-- The bytes searched hold no LF and pass no limit, at most one block was read after them, and
-- nothing that is counted overflows.
pub record IsSound (l : Inside) : Type 0 where
  pub searched : l.searched ≤ length l.kept
  pub no_lf : HasNoLf (take l.searched l.kept)
  pub ahead : length l.kept ≤ l.searched + 65536
  pub line_fits : l.searched ≤ l.largest_line
  pub script_fits : l.offset + l.searched ≤ l.largest_script
  pub counted : l.handed ≤ l.offset
  pub script : l.largest_script < 2 ^ 64 - 1
  pub block : IsBlock (vec_len l.block)
