use Rattle.std.proofs.Common.{inr}
use Rattle.ic_script_runner.specs.EndPart.{end_part}
use Rattle.ic_script_runner.specs.Sending.{sink_at}
use Rattle.ic_script_runner.proofs.SendLaws.{Interrupts-more}
use Rattle.ic_script_runner.proofs.ending.finish.Goals as goal

pub returns-in-Err : goal.returns-in-Err
returns-in-Err g c =
    let old = sink_at g.K.Sink.taken g.K.Sink.fits g.K.Sink.faults c.args.sink.now in
    let new = sink_at g.K.Sink.taken g.K.Sink.fits g.K.Sink.faults c.give_up.new.sink in
    record { finished = inr (Interrupts-more old new c.args.gathered.now (end_part c.args.setting.now.options.now c.args.world) c.give_up.result c.give_up.ensures) }
