use Rattle.std.proofs.Common.{◌≡◌, drop}
use Rattle.std.specs.List.{list_all}
use Rattle.cd_grammar.specs.Fits.{parts_of}
use Rattle.cd_did.specs.Tests.{passes}
use Rattle.cd_did.proofs.checks.types_pass.Given as goal

abbrev pub invariant-loop-written : goal.invariant-loop-written
invariant-loop-written l = list_all (λ w. list_all (passes l.test) (parts_of w)) (drop l.written-index l.types) ≡ list_all (λ w. list_all (passes l.test) (parts_of w)) l.types
