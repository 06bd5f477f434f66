use Rattle.std.proofs.Common.{◌≡◌, ◌%◌, ◌^◌, take}
use Rattle.cd_types.specs.FieldId.{label_sum}
use Rattle.cd_types.proofs.label.field_id_of_bytes.Given as goal

-- the id of the bytes so far
abbrev pub invariant-loop-byte : goal.invariant-loop-byte
invariant-loop-byte l = l.id ≡ label_sum (take l.byte-index l.name) % 2 ^ 32
