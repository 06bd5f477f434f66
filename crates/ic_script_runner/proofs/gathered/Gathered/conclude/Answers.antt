use Rattle.std.proofs.Common.{List, ℕ, ◌++◌, [], append-nil, subst, inr}
use Rattle.ic_script_runner.specs.Sending.{Interrupts, sink_at}
use Rattle.ic_script_runner.proofs.Gathering.{Gathers-interrupted}
use Rattle.ic_script_runner.proofs.gathered.Gathered.conclude.Goals as goal

pub returns-in-Err-flush : goal.returns-in-Err-flush
returns-in-Err-flush g c =
    let old = sink_at g.K.Sink.taken g.K.Sink.fits g.K.Sink.faults c.args.sink.now in
    let new = sink_at g.K.Sink.taken g.K.Sink.fits g.K.Sink.faults c.flush.new.sink in
    let P = λ (l : List ℕ). Interrupts old new l c.in-Err-flush.fault in
    inr (subst P (append-nil (c.args.self.now ++ c.args.text.now))
    (Gathers-interrupted c.in-Ok.field-0 old (sink_at g.K.Sink.taken g.K.Sink.fits g.K.Sink.faults c.put.new.sink) new c.args.self.now c.args.text.now c.put.new.self c.in-Ok.ensures [] c.in-Err-flush.fault c.in-Err-flush.ensures.sent))
