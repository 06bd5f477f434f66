use Rattle.ic_script_runner.specs.Sending.{sink_at}
use Rattle.ic_script_runner.proofs.Printed.{Printed}
use Rattle.ic_script_runner.proofs.ending.print_answers.Given as goal

abbrev pub invariant-loop-number : goal.invariant-loop-number
invariant-loop-number g l =
    Printed l.requests (sink_at g.K.Sink.taken g.K.Sink.fits g.K.Sink.faults l.fn.sink) (sink_at g.K.Sink.taken g.K.Sink.fits g.K.Sink.faults l.sink) l.fn.gathered l.gathered l.number
