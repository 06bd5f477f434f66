use Rattle.std.proofs.Common.{◌≡◌}
use Rattle.ic_generate.specs.Script.{route}
use Rattle.ic_generate.proofs.calls.route.Given as goal

abbrev pub invariant-loop-place : goal.invariant-loop-place
invariant-loop-place l = l.ids.items ≡ route l.y l.place
