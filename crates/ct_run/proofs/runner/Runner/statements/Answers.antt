use Rattle.std.proofs.Common.{drop}
use Rattle.ct_check.proofs.Loops.{there, past}
use Rattle.ct_run.proofs.Walks.{at_start, goes_on, at_failure, at_end}
use Rattle.ct_run.proofs.runner.Runner.statements.Goals as goal

pub loop-place-init : goal.loop-place-init
loop-place-init g c = at_start c.args.self.now c.args.world c.args.names.now c.args.statements.now

pub loop-place-preserved : goal.loop-place-preserved
loop-place-preserved g c =
    let ks = c.args.statements.now in
    let split = there ks c.loop-place.place c.index-statements-place.result c.loop-place-test.true c.index-statements-place.is in
    let met = rw c.in-None.is at c.in_ok-next.ensures in
    goes_on c.args.self.now c.args.world c.loop-place.world c.args.names.now c.loop-place.names ks (drop c.loop-place.place ks) c.loop-place.place c.loop-place.invariant
    c.in_ok-next.next _ c.index-statements-place.result _ split met

pub returns-in-Some : goal.returns-in-Some
returns-in-Some g c =
    let ks = c.args.statements.now in
    let split = there ks c.loop-place.place c.index-statements-place.result c.loop-place-test.true c.index-statements-place.is in
    let unmet = rw c.in-Some.is at c.in_ok-next.ensures in
    at_failure c.args.self.now c.args.world c.loop-place.world c.args.names.now c.loop-place.names ks (drop c.loop-place.place ks) c.loop-place.place c.loop-place.invariant
    c.in_ok-next.next _ c.index-statements-place.result _ c.in-Some.unmet.came split unmet

pub returns : goal.returns
returns g c =
    let ks = c.args.statements.now in
    at_end c.args.self.now c.args.world c.loop-place.world c.args.names.now c.loop-place.names ks (drop c.loop-place.place ks) c.loop-place.place c.loop-place.invariant
    (past ks c.loop-place.place c.loop-place-test.false)
