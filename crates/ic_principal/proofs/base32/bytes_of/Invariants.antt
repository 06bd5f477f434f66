use Rattle.std.proofs.Common.{◌≡◌, ◌+◌, ◌*◌, ◌++◌, ◌<◌, length, take}
use Rattle.std.specs.List.{All, flat_map}
use Rattle.ic_principal.specs.Bits.{bits, bits_of}
use Rattle.ic_principal.proofs.base32.bytes_of.Given as goal

abbrev pub invariant-loop-value : goal.invariant-loop-value
invariant-loop-value l = record {
  bits : bits l.bytes.items ++ l.queue ≡ flat_map (bits_of 5) (take l.value-index l.values);
  len : 8 * length l.bytes.items + length l.queue ≡ 5 * l.value-index;
  few : length l.queue < 8;
  below : All (λ b. b < 256) l.bytes.items;
}
