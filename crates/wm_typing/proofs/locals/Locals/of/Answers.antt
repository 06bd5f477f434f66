use Rattle.std.proofs.Common.{◌∙◌}
use Rattle.wm_typing.proofs.LocalLemmas.{ends_more}
use Rattle.wm_typing.proofs.locals.Locals.of.Goals as goal

pub loop-run-preserved : goal.loop-run-preserved
loop-run-preserved c =
    let sum = rw c.in_ok-len.ensures.ok_part at c.checked_add.ensures in
    let more = ends_more c.args.runs.now c.loop-run.run-index _ c.loop-run.len c.in_ok-len.len c.loop-run.ends.items c.loop-run-test.true c.loop-run.invariant.ends c.loop-run.invariant.len sum.1 in
    record { ends = c.in_ok-push.ensures.items ∙ more.0; len = more.1 }
