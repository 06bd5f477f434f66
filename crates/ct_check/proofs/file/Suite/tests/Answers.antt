use Rattle.std.proofs.Common.{◌+◌, drop, arith}
use Rattle.std.proofs.lemmas.Result.{err_from_is_err_and}
use Rattle.ct_check.specs.Holds.{test}
use Rattle.ct_check.proofs.Loops.{there, past, at_end, at_fault, goes_on}
use Rattle.ct_check.proofs.file.Suite.tests.Goals as goal

pub returns-in_err-test : goal.returns-in_err-test
returns-in_err-test c =
    let p = err_from_is_err_and c.from_residual.result c.from_residual.ensures.1 in
    let all = c.args.tests.now in
    rw (p.1, p.2) (at_fault c.in_err-test.field-0.0 test c.loop-test.items.items c.loop-test.self (drop c.loop-test.test-index all) c.test-item.result (drop (c.loop-test.test-index + 1) all) _
    (there all c.loop-test.test-index c.test-item.result c.loop-test-test.true c.test-item.is) c.in_err-test.ensures c.loop-test.invariant)

pub loop-test-preserved : goal.loop-test-preserved
loop-test-preserved c =
    let all = c.args.tests.now in
    rw c.in_ok-push.ensures.items (goes_on test c.loop-test.items.items c.loop-test.self c.test.new.self (drop c.loop-test.test-index all) c.test-item.result (drop (c.loop-test.test-index + 1) all) _ _
    (there all c.loop-test.test-index c.test-item.result c.loop-test-test.true c.test-item.is) c.in_ok-test.ensures c.loop-test.invariant)

pub returns : goal.returns
returns c =
    let all = c.args.tests.now in
    at_end test c.loop-test.items.items c.loop-test.self (drop c.loop-test.test-index all) _ (past all c.loop-test.test-index (omega (arith, c.loop-test-test.false))) c.loop-test.invariant
