use Rattle.std.proofs.Common.{◌≡◌, None, drop}
use Rattle.cd_did.specs.Rings.{is_named_at, least_from}
use Rattle.cd_did.proofs.rings.vacuous_of.Given as goal

abbrev pub invariant-loop-end : goal.invariant-loop-end
invariant-loop-end l = least_from (is_named_at l.definitions) l.least (drop l.end-index l.ends) ≡ least_from (is_named_at l.definitions) None l.ends
