use Rattle.std.proofs.Common.{◌+◌, drop}
use Rattle.ct_sources.specs.Named.{test_files}
use Rattle.ct_sources.proofs.Listed.{there, goes_on}
use Rattle.ct_sources.proofs.named.Listed.add_tests.Goals as goal

pub loop-test-preserved : goal.loop-test-preserved
loop-test-preserved c =
    let tests = c.args.tests.now in
    goes_on test_files c.loop-test.self c.add_test.new.self _ (drop c.loop-test.test-index tests) c.test-item.result (drop (c.loop-test.test-index + 1) tests)
    (there tests c.loop-test.test-index c.test-item.result c.loop-test-test.true c.test-item.is) c.in_ok-add_test.ensures c.loop-test.invariant
