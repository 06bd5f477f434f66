use Rattle.std.proofs.Common.{inr}
use Rattle.ic_script_runner.specs.Sending.{sink_at}
use Rattle.ic_script_runner.proofs.SendLaws.{Interrupts-at_once}
use Rattle.ic_script_runner.proofs.generated.run_generated.Goals as goal

pub returns-in-Err : goal.returns-in-Err
returns-in-Err g c = inr (Interrupts-at_once (sink_at g.K.Sink.taken g.K.Sink.fits g.K.Sink.faults c.args.sink.now) _)
