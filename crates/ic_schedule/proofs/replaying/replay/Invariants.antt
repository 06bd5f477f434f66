use Rattle.std.proofs.Common.{◌≡◌, take}
use Rattle.ic_schedule.specs.Picks.{Chain}
use Rattle.ic_schedule.proofs.replaying.replay.Given as goal

abbrev pub invariant-loop-pick : goal.invariant-loop-pick
invariant-loop-pick g l = record {
  chain : Chain (g.M.Manager.manages l.manager) l.limit l.price l.fn.world (take l.pick-index l.picks) l.world;
  count : l.delivered ≡ l.pick-index;
}
