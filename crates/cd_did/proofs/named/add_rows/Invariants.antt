use Rattle.std.proofs.Common.{◌≡◌, map, take, drop}
use Rattle.std.specs.List.{list_all}
use Rattle.cd_did.specs.Entries.{is_method}
use Rattle.cd_did.specs.Sorted.{row}
use Rattle.cd_did.proofs.named.add_rows.Given as goal

abbrev pub invariant-loop-name : goal.invariant-loop-name
invariant-loop-name l =
    (l.rows.items ≡ map (row l.ended.names.now.definitions l.ended.ends.now) (take l.name-index l.methods))
    × (list_all (λ m. is_method l.ended.names.now l.ended.ends.now m.1) (drop l.name-index l.methods) ≡ list_all (λ m. is_method l.ended.names.now l.ended.ends.now m.1) l.methods)
