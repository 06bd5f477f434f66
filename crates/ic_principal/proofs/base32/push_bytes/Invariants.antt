use Rattle.std.proofs.Common.{◌≡◌, ◌+◌, ◌*◌, ◌++◌, ◌<◌, length, take}
use Rattle.std.specs.List.{All, flat_map}
use Rattle.ic_principal.specs.Bits.{bits, bits_of}
use Rattle.ic_principal.proofs.base32.push_bytes.Given as goal

abbrev pub invariant-loop-byte : goal.invariant-loop-byte
invariant-loop-byte l = record {
  bits : flat_map (bits_of 5) l.values.items ++ l.queue ≡ flat_map (bits_of 5) l.initial.values.items ++ l.initial.queue ++ bits (take l.byte-index l.bytes);
  len : 5 * length l.values.items + length l.queue ≡ 5 * length l.initial.values.items + length l.initial.queue + 8 * l.byte-index;
  few : length l.queue < 5;
  values : All (λ v. v < 32) l.values.items;
}
