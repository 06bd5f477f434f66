use Rattle.std.proofs.Common.{◌≡◌}
use Rattle.cd_did.specs.Rings.{firsts}
use Rattle.cd_did.proofs.rings.first_jumps.Given as goal

abbrev pub invariant-loop-place : goal.invariant-loop-place
invariant-loop-place l = l.jumps.items ≡ firsts l.names.definitions l.place
