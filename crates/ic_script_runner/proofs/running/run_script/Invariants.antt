use Rattle.std.proofs.Common.{◌-◌}
use Rattle.ic_script_runner.specs.Sending.{sink_at}
use Rattle.ic_script_runner.proofs.Runs.{Runs}
use Rattle.ic_script_runner.proofs.Streams.{Reading}
use Rattle.ic_script_runner.proofs.running.run_script.Given as goal

abbrev pub invariant-loop-status : goal.invariant-loop-status
invariant-loop-status g l =
    Runs l.options (g.S.Source.left l.fn.source) (g.S.Source.left l.source)
    (sink_at g.K.Sink.taken g.K.Sink.fits g.K.Sink.faults l.fn.sink) (sink_at g.K.Sink.taken g.K.Sink.fits g.K.Sink.faults l.sink) l.world l.lines l.gathered
    × Reading g.S.Source.faults g.S.Source.ended g.S.Source.cannot_fail l.fn.source l.source l.lines.ended

abbrev pub decreases-loop-status : goal.decreases-loop-status
decreases-loop-status g l = 268435456 - l.lines.offset
