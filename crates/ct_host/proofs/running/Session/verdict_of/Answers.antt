use Rattle.std.proofs.Common.{ap, ◌∙◌}
use Rattle.ct_host.specs.Chosen.{Chosen}
use Rattle.ct_host.proofs.Tests.{told_failed}
use Rattle.ct_host.proofs.running.Session.verdict_of.Goals as goal

pub returns-in_ok-fail-in-Failed : goal.returns-in_ok-fail-in-Failed
returns-in_ok-fail-in-Failed g c =
    told_failed c.args.self.now.limits c.args.chosen.now c.args.counts.now _ _ _ c.not_passed.result
    c.in-Failed.not_met.failure.place c.in-Failed.not_met.failure.span.start _ _ c.in-Failed.not_met.failure.unmet.came _ _
    c.in_ok-number.ensures (ap (λ (x : Chosen). x.test.name) c.chosen.view_is)
    (c.test_file-file.ensures.name ∙ ap (λ (x : Chosen). x.suite.sourced.name) c.chosen.view_is)
    (c.test_file-file.ensures.text ∙ ap (λ (x : Chosen). x.suite.sourced.text) c.chosen.view_is)
    (c.requires.failed c.in-Failed.not_met c.in-Failed.is) c.in_ok-fail-in-Failed.ensures c.not_passed.ensures
