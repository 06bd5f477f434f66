use Rattle.std.proofs.Common.{◌+◌, drop, arith}
use Rattle.std.proofs.lemmas.Result.{err_from_is_err_and}
use Rattle.ct_check.specs.Holds.{step}
use Rattle.ct_check.proofs.Loops.{there, past, at_end, at_fault, goes_on}
use Rattle.ct_check.proofs.checker.Checker.steps.Goals as goal

pub returns-in_err-step : goal.returns-in_err-step
returns-in_err-step c =
    let p = err_from_is_err_and c.from_residual.result c.from_residual.ensures.1 in
    let all = c.args.steps.now in
    rw (p.1, p.2) (at_fault c.in_err-step.field-0.0 step c.loop-step.items.items c.loop-step.self (drop c.loop-step.step-index all) c.step-item.result (drop (c.loop-step.step-index + 1) all) _
    (there all c.loop-step.step-index c.step-item.result c.loop-step-test.true c.step-item.is) c.in_err-step.ensures c.loop-step.invariant)

pub loop-step-preserved : goal.loop-step-preserved
loop-step-preserved c =
    let all = c.args.steps.now in
    rw c.in_ok-push.ensures.items (goes_on step c.loop-step.items.items c.loop-step.self c.step.new.self (drop c.loop-step.step-index all) c.step-item.result (drop (c.loop-step.step-index + 1) all) _ _
    (there all c.loop-step.step-index c.step-item.result c.loop-step-test.true c.step-item.is) c.in_ok-step.ensures c.loop-step.invariant)

pub returns : goal.returns
returns c =
    let all = c.args.steps.now in
    at_end step c.loop-step.items.items c.loop-step.self (drop c.loop-step.step-index all) _ (past all c.loop-step.step-index (omega (arith, c.loop-step-test.false))) c.loop-step.invariant
