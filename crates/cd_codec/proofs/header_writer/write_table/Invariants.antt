use Rattle.std.proofs.Common.{◌≡◌, ◌++◌, take}
use Rattle.std.specs.List.{flat_map}
use Rattle.cd_codec.specs.HeaderSpelling.{entry_spelling}
use Rattle.cd_codec.proofs.header_writer.write_table.Given as goal

abbrev pub invariant-loop-index : goal.invariant-loop-index
invariant-loop-index l = l.out.items ≡ l.fn.out.items ++ flat_map entry_spelling (take l.index l.table)
