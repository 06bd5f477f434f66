use Rattle.std.proofs.Common.{◌≡◌, ◌+◌, ◌-◌, suc, refl, arith}
use Rattle.ct_run.specs.Called.{rules_of}
use Rattle.ct_run.proofs.Hearings.{sweep_next, sweep_end}
use Rattle.ct_run.proofs.runner.Runner.heard_sweep.Goals as goal

pub loop-init : goal.loop-init
loop-init g c = record { few = omega arith; left = (let all : c.args.count - 0 ≡ c.args.count = omega arith in rw all refl) }

pub loop-preserved : goal.loop-preserved
loop-preserved g c =
    let left : c.args.count - c.loop.counter ≡ suc (c.args.count - (c.loop.counter + 1)) = omega (arith, c.loop-test.true) in
    let next = sweep_next (rules_of c.args.self.now.charge) _ c.loop.world c.in_ok-next.next _ _ c.loop.place c.in_ok-next.after left c.in_ok-next.ensures.goes c.in_ok-next.ensures.stays c.loop.invariant.left in
    record { few = omega (arith, next.1, c.loop.invariant.few); left = next.0 }

pub returns : goal.returns
returns g c =
    let none : c.args.count - c.loop.counter ≡ 0 = omega (arith, c.loop-test.false) in
    sweep_end (rules_of c.args.self.now.charge) _ c.loop.world _ c.loop.place none c.loop.invariant.left
