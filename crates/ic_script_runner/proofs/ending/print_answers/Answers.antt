use Rattle.std.proofs.Common.{◌≡◌, sym}
use Rattle.ic_script_runner.specs.Sending.{sink_at}
use Rattle.ic_output.specs.Texts.{answer_text}
use Rattle.ic_script_runner.proofs.Printed.{Printed-none, Printed-wanting, Printed-more, Printed-interrupted, Printed-all}
use Rattle.ic_script_runner.proofs.ending.print_answers.Goals as goal

pub loop-number-init : goal.loop-number-init
loop-number-init g c = Printed-none c.args.requests.now (sink_at g.K.Sink.taken g.K.Sink.fits g.K.Sink.faults c.args.sink.now) c.args.gathered.now

pub returns-in_default : goal.returns-in_default
returns-in_default g c =
    Printed-wanting c.args.requests.now _ _ c.args.gathered.now c.loop-number.gathered c.loop-number.number c.loop-number.invariant (sink_at g.K.Sink.taken g.K.Sink.fits g.K.Sink.faults c.give_up.new.sink) c.give_up.result c.give_up.ensures

pub returns-in-Err : goal.returns-in-Err
returns-in-Err g c =
    let text : c.deref.result.now ≡ answer_text c.loop-number.number c.index-requests-number.result.answer = (let v = c.deref.ensures.value in let w = c.text.view_is in let e = c.in-Ok.ensures in cc) in
    Printed-interrupted c.args.requests.now _ _ c.args.gathered.now c.loop-number.gathered c.loop-number.number c.loop-number.invariant c.index-requests-number.result c.loop-number-test.true c.index-requests-number.is
    (sink_at g.K.Sink.taken g.K.Sink.fits g.K.Sink.faults c.put.new.sink) c.in-Err.status (rw (sym text) c.in-Err.ensures)

pub loop-number-preserved : goal.loop-number-preserved
loop-number-preserved g c =
    let text : c.deref.result.now ≡ answer_text c.loop-number.number c.index-requests-number.result.answer = (let v = c.deref.ensures.value in let w = c.text.view_is in let e = c.in-Ok.ensures in cc) in
    Printed-more c.args.requests.now _ _ c.args.gathered.now c.loop-number.gathered c.loop-number.number c.loop-number.invariant c.index-requests-number.result c.loop-number-test.true c.index-requests-number.is
    c.in_default-put.field-0 (sink_at g.K.Sink.taken g.K.Sink.fits g.K.Sink.faults c.put.new.sink) c.put.new.self (rw (sym text) c.in_default-put.ensures)

pub returns : goal.returns
returns g c =
    Printed-all c.args.requests.now _ _ c.args.gathered.now c.loop-number.gathered c.loop-number.number c.loop-number.invariant c.loop-number-test.false
