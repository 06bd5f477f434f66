use Rattle.ic_script_runner.specs.Sending.{sink_at}
use Rattle.ic_script_runner.proofs.Gathering.{Gathers-both, Gathers-printed}
use Rattle.ic_script_runner.proofs.gathered.Gathered.put.Goals as goal

pub returns-in-Ok-2 : goal.returns-in-Ok-2
returns-in-Ok-2 g c =
    let mid = sink_at g.K.Sink.taken g.K.Sink.fits g.K.Sink.faults c.flush.new.sink in
    let new = sink_at g.K.Sink.taken g.K.Sink.fits g.K.Sink.faults c.print_bytes.new.sink in
    Gathers-both c.in-Ok-2.field-0 c.print_bytes.result (sink_at g.K.Sink.taken g.K.Sink.fits g.K.Sink.faults c.args.sink.now) mid new c.args.self.now c.flush.new.self c.args.text.now c.flush.new.self
    c.in-Ok-2.ensures.sent
    (Gathers-printed c.print_bytes.result mid new c.flush.new.self c.args.text.now c.in-Ok-2.ensures.nothing c.print_bytes.ensures.printed)
