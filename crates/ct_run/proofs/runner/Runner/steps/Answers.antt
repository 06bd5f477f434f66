use Rattle.std.proofs.Common.{List, drop, ap, subst, arith}
use Rattle.ct_check.specs.declared.checked.CheckedKind.{CheckedKind}
use Rattle.ct_check.proofs.Loops.{there, past}
use Rattle.ct_run.specs.Runs.{without_interleaves}
use Rattle.ct_run.proofs.Walks.{Still, at_start, goes_on, at_failure, at_end}
use Rattle.ct_run.proofs.runner.Runner.steps.Goals.{in-Statement+in_ok-next+in-None, in_default}
use Rattle.ct_run.proofs.runner.Runner.steps.Goals as goal

pub loop-step-init : goal.loop-step-init
loop-step-init g c = record { few = omega arith; still = at_start c.args.self.now c.args.world c.args.names.now (without_interleaves c.args.steps.now) }

pub loop-step-preserved : goal.loop-step-preserved
loop-step-preserved g c =
    let steps = c.args.steps.now in
    let left = drop c.loop-step.step-index steps in
    let here = there steps c.loop-step.step-index c.step-item.result c.loop-step-test.true c.step-item.is in
    elim c.match-step.branch [
      | in-Statement+in_ok-next+in-None w ↦
          let split = ap without_interleaves (rw w.in-Statement.is at here) in
          let met = rw w.in-None.is at w.in_ok-next.ensures in
          rw (w.place-is, w.world-is, w.names-is) record {
            few = omega arith;
            still = goes_on c.args.self.now c.args.world c.loop-step.world c.args.names.now c.loop-step.names (without_interleaves steps) (without_interleaves left) c.loop-step.place
                c.loop-step.invariant.still w.in_ok-next.next _ w.in-Statement.statement _ split met;
          }
      | in_default w ↦
          let split = ap without_interleaves (rw w.in_default.is at here) in
          rw (w.place-is, w.world-is, w.names-is) record {
            few = omega arith;
            still = subst (λ (rest : List CheckedKind). Still c.args.self.now c.args.world c.args.names.now (without_interleaves steps) c.loop-step.world c.loop-step.names rest c.loop-step.place)
                split c.loop-step.invariant.still;
          }
    ]

pub returns-in-Some : goal.returns-in-Some
returns-in-Some g c =
    let steps = c.args.steps.now in
    let here = there steps c.loop-step.step-index c.step-item.result c.loop-step-test.true c.step-item.is in
    let split = ap without_interleaves (rw c.in-Statement.is at here) in
    let unmet = rw c.in-Some.is at c.in_ok-next.ensures in
    at_failure c.args.self.now c.args.world c.loop-step.world c.args.names.now c.loop-step.names (without_interleaves steps) (without_interleaves (drop c.loop-step.step-index steps)) c.loop-step.place
    c.loop-step.invariant.still c.in_ok-next.next _ _ _ c.in-Some.unmet.came split unmet

pub returns : goal.returns
returns g c =
    let steps = c.args.steps.now in
    at_end c.args.self.now c.args.world c.loop-step.world c.args.names.now c.loop-step.names (without_interleaves steps) (without_interleaves (drop c.loop-step.step-index steps)) c.loop-step.place
    c.loop-step.invariant.still (ap without_interleaves (past steps c.loop-step.step-index c.loop-step-test.false))
