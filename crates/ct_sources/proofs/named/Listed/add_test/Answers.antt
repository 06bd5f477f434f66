use Rattle.std.proofs.Common.{◌+◌, drop}
use Rattle.ct_sources.specs.Named.{step_files}
use Rattle.ct_sources.proofs.Listed.{there, goes_on}
use Rattle.ct_sources.proofs.named.Listed.add_test.Goals as goal

pub loop-step-preserved : goal.loop-step-preserved
loop-step-preserved c =
    let steps = c.deref-step-items.result.now in
    goes_on step_files c.loop-step.self c.add_step.new.self _ (drop c.loop-step.step-index steps) c.step-item.result (drop (c.loop-step.step-index + 1) steps)
    (there steps c.loop-step.step-index c.step-item.result c.loop-step-test.true c.step-item.is) c.in_ok-add_step.ensures c.loop-step.invariant
