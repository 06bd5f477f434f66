use Rattle.std.proofs.Common.{◌≡◌, drop}
use Rattle.std.specs.List.{list_all}
use Rattle.cd_did.specs.Tests.{passes}
use Rattle.cd_did.proofs.checks.all_pass.Given as goal

abbrev pub invariant-loop-part : goal.invariant-loop-part
invariant-loop-part l = list_all (passes l.test) (drop l.part-index l.parts) ≡ list_all (passes l.test) l.parts
