use Rattle.std.proofs.Common.{arith}
use Rattle.ic_schedule.proofs.Chains.{Chain-next, Picks-all}
use Rattle.ic_schedule.proofs.replaying.replay.Goals as goal

pub loop-pick-preserved : goal.loop-pick-preserved
loop-pick-preserved g c = record {
  chain = Chain-next _ c.args.limit c.args.price c.args.world c.args.picks.now c.loop-pick.pick-index c.loop-pick.world c.in_ok-world.world c.loop-pick-test.true
      c.loop-pick.invariant.chain c.if-not-eligible.ensures.yes c.in_ok-world.ensures;
  count = omega (arith, c.loop-pick.invariant.count);
}

pub returns : goal.returns
returns g c =
    Picks-all _ c.args.limit c.args.price c.args.world c.args.picks.now c.loop-pick.world c.loop-pick.delivered c.loop-pick.pick-index c.loop-pick.invariant.count
    (omega (arith, c.loop-pick-test.false, c.loop-pick.auto.pick-index-end)) c.loop-pick.invariant.chain
