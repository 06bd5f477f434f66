use Rattle.std.proofs.Common.{◌≡◌, drop}
use Rattle.ic_principal.proofs.ChecksumLaws.{left}
use Rattle.ic_principal.proofs.checksum.checksum.Given as goal

abbrev pub invariant-loop-byte : goal.invariant-loop-byte
invariant-loop-byte l = left l.register (drop l.byte-index l.bytes) ≡ left 0xFFFFFFFF l.bytes
