use Rattle.std.proofs.Common.{◌≡◌, drop, map}
use Rattle.std.specs.List.{list_all}
use Rattle.cd_did.specs.Tests.{passes}
use Rattle.cd_did.proofs.checks.rows_pass.Given as goal

abbrev pub invariant-loop-part : goal.invariant-loop-part
invariant-loop-part g l = list_all (passes l.test) (map (λ x. x.1) (drop l.part-index l.rows)) ≡ list_all (passes l.test) (map (λ x. x.1) l.rows)
