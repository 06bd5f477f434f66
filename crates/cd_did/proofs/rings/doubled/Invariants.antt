use Rattle.std.proofs.Common.{◌≡◌, map, take}
use Rattle.cd_did.specs.Rings.{jump_from}
use Rattle.cd_did.proofs.rings.doubled.Given as goal

abbrev pub invariant-loop-place : goal.invariant-loop-place
invariant-loop-place l = l.longer.items ≡ map (jump_from l.jumps) (take l.place-index l.jumps)
