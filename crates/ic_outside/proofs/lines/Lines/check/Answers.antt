use Rattle.std.proofs.Common.{◌-◌, ◌<◌, ◌≤◌, ◌⊎◌, inl, inr, refl, arith}
use Rattle.ic_outside.specs.Limits.{LongLine, LongScript}
use Rattle.ic_outside.specs.LinesInside.{reader_of}
use Rattle.ic_outside.proofs.LimitLaws.{excess-line, excess-script, excess-within}
use Rattle.ic_outside.proofs.lines.Lines.check.Goals as goal
use Rattle.ic_outside.proofs.lines.Lines.check.Goals.{else-line-self-via-then-line-self+else-self-room, else-line-self-via-else-line-self}

pub returns-then-self-room-clause-err : goal.returns-then-self-room-clause-err
returns-then-self-room-clause-err c = rw (← c.self.view_is) (
  LongLine,
  excess-line (reader_of c.self.inside).limits c.self.inside.offset c.args.line c.args.piece (omega arith) (omega arith) (omega arith),
  refl,
)

pub returns-then-piece-room-clause-err : goal.returns-then-piece-room-clause-err
returns-then-piece-room-clause-err c =
    let l = c.self.inside in
    let first : (c.args.line ≤ l.largest_line) ⊎ (l.largest_script - l.offset < l.largest_line) =
    elim c.else-line-self.branch [
      | else-line-self-via-then-line-self+else-self-room w ↦ inr (omega arith)
      | else-line-self-via-else-line-self w ↦ inl (omega arith)
    ] in
    rw (← c.self.view_is) (
      LongScript,
      excess-script (reader_of l).limits l.offset c.args.line c.args.piece (omega arith) first (omega arith),
      refl,
    )

pub returns-clause-ok : goal.returns-clause-ok
returns-clause-ok c =
    let l = c.self.inside in
    let first : (c.args.line ≤ l.largest_line) ⊎ (l.largest_script - l.offset < l.largest_line) =
    elim c.else-line-self.branch [
      | else-line-self-via-then-line-self+else-self-room w ↦ inr (omega arith)
      | else-line-self-via-else-line-self w ↦ inl (omega arith)
    ] in
    rw (← c.self.view_is) (excess-within (reader_of l).limits l.offset c.args.line c.args.piece (omega arith) first (omega arith))
