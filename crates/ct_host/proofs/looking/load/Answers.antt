use Rattle.std.proofs.Common.{◌+◌, drop, arith}
use Rattle.ct_check.proofs.Loops.{there, past}
use Rattle.ct_host.specs.Looking.{IsLoaded, IsUnreadable}
use Rattle.ct_host.proofs.Inputs.{at_end, at_fault, goes_on}
use Rattle.ct_host.proofs.looking.load.Goals as goal

pub returns-in-Err : goal.returns-in-Err
returns-in-Err g c =
    let all = c.args.names.now in
    let fails = rw c.in-Err.is at c.in_ok-loaded.ensures in
    at_fault (IsLoaded (g.D.Disk.gives c.args.disk.now)) (IsUnreadable (g.D.Disk.gives c.args.disk.now)) all c.loop-name.items.items (drop c.loop-name.name-index all) c.name-item.result (drop (c.loop-name.name-index + 1) all) c.in-Err.told.why
    (there all c.loop-name.name-index c.name-item.result c.loop-name-test.true c.name-item.is) fails c.loop-name.invariant

pub loop-name-preserved : goal.loop-name-preserved
loop-name-preserved g c =
    let all = c.args.names.now in
    let is = rw c.in-Ok.is at c.in_ok-loaded.ensures in
    rw c.in_ok-push-in-Ok.ensures.items (goes_on (IsLoaded (g.D.Disk.gives c.args.disk.now)) (IsUnreadable (g.D.Disk.gives c.args.disk.now)) all c.loop-name.items.items (drop c.loop-name.name-index all) c.name-item.result (drop (c.loop-name.name-index + 1) all) c.in-Ok.loaded
    (there all c.loop-name.name-index c.name-item.result c.loop-name-test.true c.name-item.is) is c.loop-name.invariant)

pub returns : goal.returns
returns g c =
    let all = c.args.names.now in
    at_end (IsLoaded (g.D.Disk.gives c.args.disk.now)) (IsUnreadable (g.D.Disk.gives c.args.disk.now)) all c.loop-name.items.items (drop c.loop-name.name-index all) (past all c.loop-name.name-index (omega (arith, c.loop-name-test.false))) c.loop-name.invariant
