use Rattle.std.proofs.Common.{◌≡◌, ◌++◌, ◌∷◌, codes, take}
use Rattle.std.specs.List.{flat_map}
use Rattle.cd_plain.specs.Printed.{hex_escape}
use Rattle.cd_plain.proofs.plain_writer.write_blob.Given as goal

abbrev pub invariant-loop-byte : goal.invariant-loop-byte
invariant-loop-byte l = l.out.items ≡ l.fn.out.items ++ (codes "blob " ++ (34 ∷ flat_map hex_escape (take l.byte-index l.bytes)))
