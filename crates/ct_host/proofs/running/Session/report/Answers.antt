use Rattle.ct_host.proofs.Tests.{reported}
use Rattle.ct_host.proofs.running.Session.report.Goals as goal

pub returns-clause-printed : goal.returns-clause-printed
returns-clause-printed g c =
    reported c.args.self.now.limits c.args.tests.now (g.K.Sink.taken c.args.outputs.now.out) _ _ _ _ _ _ _ c.verdict.result
    c.in_ok-plan.ensures c.in_ok-print.ensures.printed c.new-counts.ensures c.in_ok-print_tests.ensures.printed c.in_ok-text.ensures c.in_ok-print-2.ensures.printed c.verdict.ensures
