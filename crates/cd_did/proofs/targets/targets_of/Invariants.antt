use Rattle.std.proofs.Common.{◌≡◌, map, take}
use Rattle.cd_did.specs.Targets.{target}
use Rattle.cd_did.proofs.targets.targets_of.Given as goal

abbrev pub invariant-loop-part : goal.invariant-loop-part
invariant-loop-part l = l.items.items ≡ map (target l.ended.names.now.definitions l.ended.ends.now) (take l.part-index l.parts)
