use Rattle.std.proofs.Common.{ℕ, List, [], Err, append-nil, subst, sym, ap, ◌∙◌, refl, arith}
use Rattle.ic_outside.specs.Faults.{count_after_line}
use Rattle.ic_script_runner.specs.Counts.{sink_count_after}
use Rattle.ic_script_runner.specs.declared.status.Status.{Status}
use Rattle.ic_script_runner.specs.Sending.{Interrupts, sink_at}
use Rattle.ic_script_runner.proofs.Runs.{Runs-ready, Runs-more, further, prepend_known-nil, explain-pending, explain-line, explain-end, explain-fault, nothing_left}
use Rattle.ic_script_runner.proofs.Counts.{Interrupts-counted, Done-counted, DoesAndGathers-counted, Stops-counted}
use Rattle.ic_script_runner.proofs.Exits.{explain-at_once}
use Rattle.ic_script_runner.proofs.Streams.{Reading-more}
use Rattle.ic_script_runner.proofs.running.run_script.Goals as goal

pub returns-in_default-clause-explained : goal.returns-in_default-clause-explained
returns-in_default-clause-explained g c = λ words accepted. explain-at_once words _ _

pub returns-in-Err-clause-explained : goal.returns-in-Err-clause-explained
returns-in-Err-clause-explained g c = λ words accepted.
    let left = g.S.Source.left c.loop-status.source in
    let P = λ (l : List ℕ). Interrupts (sink_at g.K.Sink.taken g.K.Sink.fits g.K.Sink.faults c.loop-status.sink) (sink_at g.K.Sink.taken g.K.Sink.fits g.K.Sink.faults c.before_reading.new.sink) l c.in-Err.status in
    explain-pending _ _ left left _ (sink_at g.K.Sink.taken g.K.Sink.fits g.K.Sink.faults c.loop-status.sink) _ _ c.loop-status.lines c.loop-status.lines c.loop-status.gathered c.loop-status.invariant.0
    [] (sym (prepend_known-nil left)) (λ e. refl) words accepted c.requires.read c.in-Err.status (subst P (append-nil c.loop-status.gathered) c.in-Err.ensures.sent)

pub returns-in-Err-do_and_gather-clause-explained : goal.returns-in-Err-do_and_gather-clause-explained
returns-in-Err-do_and_gather-clause-explained g c = λ words accepted.
    let was = c.loop-status.invariant.0 in
    let runs = Runs-ready c.in_default-before_reading.field-0 _ _ _ _ (sink_at g.K.Sink.taken g.K.Sink.fits g.K.Sink.faults c.loop-status.sink) (sink_at g.K.Sink.taken g.K.Sink.fits g.K.Sink.faults c.before_reading.new.sink) _ _ c.loop-status.gathered c.before_reading.new.self was c.in_default-before_reading.ensures.sent in
    let reads = rw c.in-Ok-Some.field-0-is at (c.in-Ok-Some.ensures.reads runs.fault) in
    explain-line _ _ _ _ _ _ _ _ _ _ _ runs reads.read reads.taken reads.over words accepted c.requires.read c.in-Ok-Some.line reads.answers.0 reads.answers.1
    c.in-Err-do_and_gather.status c.do_and_gather.new.gathered c.in-Err-do_and_gather.ensures.does

pub loop-status-smaller : goal.loop-status-smaller
loop-status-smaller g c =
    let was = c.loop-status.invariant.0 in
    let runs = Runs-ready c.in_default-before_reading.field-0 _ _ _ _ (sink_at g.K.Sink.taken g.K.Sink.fits g.K.Sink.faults c.loop-status.sink) (sink_at g.K.Sink.taken g.K.Sink.fits g.K.Sink.faults c.before_reading.new.sink) _ _ c.loop-status.gathered c.before_reading.new.self was c.in_default-before_reading.ensures.sent in
    let reads = rw c.in-Ok-Some.field-0-is at (c.in-Ok-Some.ensures.reads runs.fault) in
    omega (arith, further _ _ _ _ _ _ (sink_at g.K.Sink.taken g.K.Sink.fits g.K.Sink.faults c.loop-status.sink) _ _ _ _ runs reads.read reads.taken reads.over c.in-Ok-Some.line reads.answers.0 reads.answers.1)

pub loop-status-preserved : goal.loop-status-preserved
loop-status-preserved g c =
    let was = c.loop-status.invariant.0 in
    let runs = Runs-ready c.in_default-before_reading.field-0 _ _ _ _ (sink_at g.K.Sink.taken g.K.Sink.fits g.K.Sink.faults c.loop-status.sink) (sink_at g.K.Sink.taken g.K.Sink.fits g.K.Sink.faults c.before_reading.new.sink) _ _ c.loop-status.gathered c.before_reading.new.self was c.in_default-before_reading.ensures.sent in
    let reads = rw c.in-Ok-Some.field-0-is at (c.in-Ok-Some.ensures.reads runs.fault) in
    let turned = c.in-Ok-do_and_gather.ensures.does in (
      Runs-more _ _ _ _ _ _ _ _ _ _ _ runs reads.read reads.taken reads.over c.in-Ok-Some.line reads.answers.0 reads.answers.1
          c.in-Ok-do_and_gather.next c.do_and_gather.new.gathered turned.0 turned.1 turned.2 turned.3 turned.4,
      Reading-more g.S.Source.faults g.S.Source.ended g.S.Source.cannot_fail _ _ _ c.loop-status.lines.ended c.next.new.self.ended c.loop-status.invariant.1
          (c.in-Ok-Some.ensures.counted runs.fault) c.in-Ok-Some.ensures.over c.in-Ok-Some.ensures.gave_end
          (λ sure. (c.in-Ok-Some.ensures.sure sure).0),
    )

pub returns-in-Ok-None-clause-explained : goal.returns-in-Ok-None-clause-explained
returns-in-Ok-None-clause-explained g c = λ words accepted.
    let was = c.loop-status.invariant.0 in
    let runs = Runs-ready c.in_default-before_reading.field-0 _ _ _ _ (sink_at g.K.Sink.taken g.K.Sink.fits g.K.Sink.faults c.loop-status.sink) (sink_at g.K.Sink.taken g.K.Sink.fits g.K.Sink.faults c.before_reading.new.sink) _ _ c.loop-status.gathered c.before_reading.new.self was c.in_default-before_reading.ensures.sent in
    let reads = rw c.in-Ok-None.field-0-is at (c.in-Ok-None.ensures.reads runs.fault) in
    explain-end _ _ _ _ _ _ _ _ _ c.next.new.self _ runs reads.read reads.taken reads.over words accepted c.requires.read c.finish.result reads.answers.0
    (nothing_left _ _ _ _ _ _ (sink_at g.K.Sink.taken g.K.Sink.fits g.K.Sink.faults c.loop-status.sink) _ _ c.next.new.self _ runs reads.read reads.taken reads.over reads.answers.2) c.finish.ensures.finished

pub returns-in-Err-next-clause-explained : goal.returns-in-Err-next-clause-explained
returns-in-Err-next-clause-explained g c = λ words accepted.
    let was = c.loop-status.invariant.0 in
    let runs = Runs-ready c.in_default-before_reading.field-0 _ _ _ _ (sink_at g.K.Sink.taken g.K.Sink.fits g.K.Sink.faults c.loop-status.sink) (sink_at g.K.Sink.taken g.K.Sink.fits g.K.Sink.faults c.before_reading.new.sink) _ _ c.loop-status.gathered c.before_reading.new.self was c.in_default-before_reading.ensures.sent in
    let reads = c.in-Err-next.ensures.reads runs.fault in
    explain-fault _ _ _ _ _ _ _ _ _ _ _ runs reads.read reads.taken reads.over words accepted c.requires.read c.in-Err-next.fault c.stop.result
    c.in_default-before_reading.ensures.nothing reads.answers c.stop.ensures.stops

-- each end of a run counts the faults of its streams
pub returns-in-Err-clause-counted_source : goal.returns-in-Err-clause-counted_source
returns-in-Err-clause-counted_source g c =
    c.loop-status.invariant.1.counted ∙ sym ((Interrupts-counted _ _ _ c.in-Err.status c.in-Err.ensures.sent).1 _)

pub returns-in-Err-clause-counted_sink : goal.returns-in-Err-clause-counted_sink
returns-in-Err-clause-counted_sink g c =
    (Interrupts-counted _ _ _ c.in-Err.status c.in-Err.ensures.sent).0 ∙ ap (λ n. sink_count_after n c.in-Err.status) c.loop-status.invariant.0.sent.counted

pub returns-in-Err-do_and_gather-clause-counted_source : goal.returns-in-Err-do_and_gather-clause-counted_source
returns-in-Err-do_and_gather-clause-counted_source g c =
    c.in-Ok-Some.ensures.counted c.loop-status.invariant.0.fault ∙ c.loop-status.invariant.1.counted
    ∙ sym ((DoesAndGathers-counted _ _ _ c.do_and_gather.new.gathered _ _ c.in-Err-do_and_gather.status c.in-Err-do_and_gather.ensures.does).1 _)

pub returns-in-Err-do_and_gather-clause-counted_sink : goal.returns-in-Err-do_and_gather-clause-counted_sink
returns-in-Err-do_and_gather-clause-counted_sink g c =
    (DoesAndGathers-counted _ _ _ c.do_and_gather.new.gathered _ _ c.in-Err-do_and_gather.status c.in-Err-do_and_gather.ensures.does).0
    ∙ ap (λ n. sink_count_after n c.in-Err-do_and_gather.status) (c.in_default-before_reading.ensures.sent.1.counted ∙ c.loop-status.invariant.0.sent.counted)

pub returns-in-Ok-None-clause-counted_source : goal.returns-in-Ok-None-clause-counted_source
returns-in-Ok-None-clause-counted_source g c =
    c.in-Ok-None.ensures.counted c.loop-status.invariant.0.fault ∙ c.loop-status.invariant.1.counted
    ∙ sym ((Done-counted _ _ _ c.finish.result c.finish.ensures.finished).1 _)

pub returns-in-Ok-None-clause-counted_sink : goal.returns-in-Ok-None-clause-counted_sink
returns-in-Ok-None-clause-counted_sink g c =
    (Done-counted _ _ _ c.finish.result c.finish.ensures.finished).0
    ∙ ap (λ n. sink_count_after n c.finish.result) (c.in_default-before_reading.ensures.sent.1.counted ∙ c.loop-status.invariant.0.sent.counted)

pub returns-in-Err-next-clause-counted_source : goal.returns-in-Err-next-clause-counted_source
returns-in-Err-next-clause-counted_source g c =
    c.in-Err-next.ensures.counted c.loop-status.invariant.0.fault ∙ ap (λ n. count_after_line {T = Status} n (Err c.in-Err-next.fault)) c.loop-status.invariant.1.counted
    ∙ sym ((Stops-counted _ _ _ c.in-Err-next.fault c.stop.result c.stop.ensures.stops).1 _)

pub returns-in-Err-next-clause-counted_sink : goal.returns-in-Err-next-clause-counted_sink
returns-in-Err-next-clause-counted_sink g c =
    (Stops-counted _ _ _ c.in-Err-next.fault c.stop.result c.stop.ensures.stops).0
    ∙ ap (λ n. sink_count_after n c.stop.result) (c.in_default-before_reading.ensures.sent.1.counted ∙ c.loop-status.invariant.0.sent.counted)
