use Rattle.std.proofs.Common.{◌≡◌, map, take, drop}
use Rattle.std.specs.List.{list_all}
use Rattle.cd_did.specs.Sorted.{row, fits}
use Rattle.cd_did.proofs.sorted.add_rows.Given as goal

abbrev pub invariant-loop-id : goal.invariant-loop-id
invariant-loop-id l = (l.rows.items ≡ map (row l.ended.names.now.definitions l.ended.ends.now) (take l.id-index l.fields)) × (list_all fits (map (λ f. f.0) (drop l.id-index l.fields)) ≡ list_all fits (map (λ f. f.0) l.fields))
