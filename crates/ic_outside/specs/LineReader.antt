-- What a reader of lines shows.
use Rattle.std.specs.Prelude.{ℕ, Bool, List, Option}
use Rattle.ic_outside.specs.Limits.{Limits}
use Rattle.ic_outside.specs.declared.error.LineFault.{LineFault}

-- the limits, the bytes read and not handed out, the number of bytes handed out, the number of lines
-- handed out, whether the source gave its end, and the fault that is answered from now on
pub record LineReader : Type 0 where
  pub limits : Limits
  pub kept : List ℕ
  pub offset : ℕ
  pub handed : ℕ
  pub ended : Bool
  pub fault : Option LineFault
