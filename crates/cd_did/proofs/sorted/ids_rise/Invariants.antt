use Rattle.std.proofs.Common.{◌≡◌, drop, map}
use Rattle.cd_types.specs.IsOrdered.{ids_rise_from}
use Rattle.cd_did.proofs.sorted.ids_rise.Given as goal

-- what is left rises from `least` on exactly where the whole rises
abbrev pub invariant-loop-id : goal.invariant-loop-id
invariant-loop-id l = ids_rise_from l.least (map (λ f. f.0) (drop l.id-index l.rows)) ≡ ids_rise_from 0 (map (λ f. f.0) l.rows)
