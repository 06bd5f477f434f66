use Rattle.std.proofs.Common.{length}
use Rattle.ic_outside.proofs.SentLaws.{Sent}
use Rattle.ic_outside.proofs.sending.send.Given as goal

abbrev pub invariant-loop-rest : goal.invariant-loop-rest
invariant-loop-rest g l =
    Sent g.K.Sink.taken g.K.Sink.faults g.K.Sink.fits l.fn.sink l.fn.bytes l.sink l.rest

abbrev pub decreases-loop-rest : goal.decreases-loop-rest
decreases-loop-rest g l = length l.rest
