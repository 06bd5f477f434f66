use Rattle.std.proofs.Common.{sym}
use Rattle.ic_script_runner.specs.Sending.{sink_at}
use Rattle.ic_script_runner.proofs.Counts.{short-counted}
use Rattle.ic_script_runner.proofs.Exits.{explain-at_once, explain-generated, explain-refused}
use Rattle.ic_host.proofs.top.read_and_run.Goals as goal

pub returns-in-Some-clause-explained : goal.returns-in-Some-clause-explained
returns-in-Some-clause-explained g c =
    explain-generated _ c.in-Ok-Some.options (rw c.in-Ok-Some.field-0-is at (sym c.in-Ok-Some.ensures.value)) c.in-Some.number (rw c.in-Ok-Some.field-0-is at c.in-Some.is)
    (g.S.Source.left c.args.source.now) (sink_at g.K.Sink.taken g.K.Sink.fits g.K.Sink.faults c.args.sink.now) (sink_at g.K.Sink.taken g.K.Sink.fits g.K.Sink.faults c.run_generated.new.sink)
    c.run_generated.result (rw c.in-Ok-Some.field-0-is at c.run_generated.ensures)

pub returns-in-Ok-None-clause-explained : goal.returns-in-Ok-None-clause-explained
returns-in-Ok-None-clause-explained g c =
    explain-refused _ (g.S.Source.left c.args.source.now) _ _ c.refuse.result (rw c.in-Ok-None.field-0-is at (sym c.in-Ok-None.ensures.value)) c.refuse.ensures.refused

pub returns-in-Err-clause-explained : goal.returns-in-Err-clause-explained
returns-in-Err-clause-explained g c = explain-at_once _ _ _

pub returns-in-Some-clause-counted : goal.returns-in-Some-clause-counted
returns-in-Some-clause-counted g c = sym ((short-counted _ _ _ _ c.run_generated.result c.run_generated.ensures).1 _)
