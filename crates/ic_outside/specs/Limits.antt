-- The limits of a script, and which of them a line passes.
use Rattle.std.specs.Prelude.{ℕ, ◌+◌, ◌&&◌, nat_lt, nat_le, if◌then◌else◌, List, length, Option, Some, None}
use Rattle.ic_outside.specs.Pieces.{line_of}

-- the most bytes that a line may have before its LF, and a script in all
pub record Limits : Type 0 where
  pub line : ℕ
  pub script : ℕ

-- the limits of a script of the program: lines of at most 8 MiB, and 256 MiB in all
abbrev pub script_limits : Limits
script_limits = record { line = 8388608; script = 268435456 }

-- a limit that is passed
pub data Excess : Type 0 where
  LongLine : Excess
  LongScript : Excess

-- The limit that is passed by a line of `line` bytes whose piece of the script, its LF included, has
-- `piece` bytes and begins at the offset. Where both are passed, the one whose first byte too many
-- comes first; at the same byte the line's.
unfoldable pub excess : Limits → ℕ → ℕ → ℕ → Option Excess
excess limits offset line piece =
    if nat_lt limits.line line && nat_le (offset + limits.line) limits.script then Some LongLine
    else if nat_lt limits.script (offset + piece) then Some LongScript
    else None

-- the limit that a piece at the offset passes
abbrev pub excess_of : Limits → ℕ → List ℕ → Option Excess
excess_of limits offset piece = excess limits offset (length (line_of piece)) (length piece)
