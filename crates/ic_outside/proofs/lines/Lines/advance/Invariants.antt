use Rattle.ic_outside.proofs.Seen.{Seen, to_read}
use Rattle.ic_outside.proofs.lines.Lines.advance.Given as goal

abbrev pub invariant-reading : goal.invariant-reading
invariant-reading g l =
    Seen g.S.Source.left g.S.Source.ended g.S.Source.faults g.S.Source.cannot_fail l.fn.self l.fn.source l.self l.source

abbrev pub decreases-reading : goal.decreases-reading
decreases-reading g l = to_read l.self
