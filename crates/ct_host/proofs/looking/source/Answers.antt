use Rattle.std.proofs.Common.{◌+◌, drop, arith}
use Rattle.ct_check.proofs.Loops.{there, past}
use Rattle.ct_host.specs.Looking.{IsNoFile, IsParsed}
use Rattle.ct_host.proofs.Inputs.{at_end, at_fault, goes_on}
use Rattle.ct_host.proofs.looking.source.Goals as goal

pub returns-in-Err : goal.returns-in-Err
returns-in-Err g c =
    let all = c.args.loaded.now in
    let fails = rw c.in-Err.is at c.in_ok-sourced.ensures in
    at_fault (IsParsed (g.D.Disk.gives c.args.disk.now)) IsNoFile all c.loop-one.items.items (drop c.loop-one.one-index all) c.one-item.result (drop (c.loop-one.one-index + 1) all) c.in-Err.told.why
    (there all c.loop-one.one-index c.one-item.result c.loop-one-test.true c.one-item.is) fails c.loop-one.invariant

pub loop-one-preserved : goal.loop-one-preserved
loop-one-preserved g c =
    let all = c.args.loaded.now in
    let is = rw c.in-Ok.is at c.in_ok-sourced.ensures in
    rw c.in_ok-push-in-Ok.ensures.items (goes_on (IsParsed (g.D.Disk.gives c.args.disk.now)) IsNoFile all c.loop-one.items.items (drop c.loop-one.one-index all) c.one-item.result (drop (c.loop-one.one-index + 1) all) c.in-Ok.sourced
    (there all c.loop-one.one-index c.one-item.result c.loop-one-test.true c.one-item.is) is c.loop-one.invariant)

pub returns : goal.returns
returns g c =
    let all = c.args.loaded.now in
    at_end (IsParsed (g.D.Disk.gives c.args.disk.now)) IsNoFile all c.loop-one.items.items (drop c.loop-one.one-index all) (past all c.loop-one.one-index (omega (arith, c.loop-one-test.false))) c.loop-one.invariant
