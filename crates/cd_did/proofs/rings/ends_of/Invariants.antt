use Rattle.std.proofs.Common.{◌-◌, ◌≤◌, length}
use Rattle.cd_did.specs.Rings.{AreJumps}
use Rattle.cd_did.proofs.rings.ends_of.Given as goal

abbrev pub invariant-loop-steps : goal.invariant-loop-steps
invariant-loop-steps l = (1 ≤ l.steps) × AreJumps l.names.definitions l.steps l.jumps.items

abbrev pub decreases-loop-steps : goal.decreases-loop-steps
decreases-loop-steps l = length l.names.definitions - l.steps
