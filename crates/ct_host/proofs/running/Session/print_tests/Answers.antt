use Rattle.std.proofs.Common.{◌+◌, ◌++◌, ℕ, List, Option, drop, ap, ◌∙◌, arith}
use Rattle.std.specs.Io.KnownBytes.{append_known}
use Rattle.ct_check.proofs.Loops.{there, past}
use Rattle.ct_host.proofs.Tests.{known_more, tell_end, tell_more}
use Rattle.ct_host.proofs.running.Session.print_tests.Goals as goal

pub loop-chosen-preserved : goal.loop-chosen-preserved
loop-chosen-preserved g c =
    let all = c.args.tests.now in
    let i = c.loop-chosen.chosen-index in
    let before = c.loop-chosen.invariant.0 in
    let one = c.in_ok-print_test.ensures.printed in (
      (
        before.0 ++ one.0,
        tell_more c.args.self.now.limits all c.args.counts.now before.0 c.loop-chosen.counts (drop i all) c.chosen-item.result (drop (i + 1) all) one.0 c.print_test.new.counts
            (there all i c.chosen-item.result c.loop-chosen-test.true c.chosen-item.is) one.1 before.1,
        one.2 ∙ ap (λ (t : Option (List ℕ)). append_known t one.0) before.2 ∙ known_more (g.K.Sink.taken c.args.outputs.now.out) before.0 one.0,
      ),
      c.in_ok-print_test.ensures.counted ∙ c.loop-chosen.invariant.1,
    )

pub returns-clause-printed : goal.returns-clause-printed
returns-clause-printed g c =
    let all = c.args.tests.now in
    let i = c.loop-chosen.chosen-index in
    let done = c.loop-chosen.invariant.0 in
    (done.0, tell_end c.args.self.now.limits all c.args.counts.now done.0 c.loop-chosen.counts (drop i all) (past all i (omega (arith, c.loop-chosen-test.false))) done.1, done.2)
