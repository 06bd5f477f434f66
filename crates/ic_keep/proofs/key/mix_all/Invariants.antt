use Rattle.std.proofs.Common.{◌≡◌, drop, fold}
use Rattle.ic_exact.specs.Key.{mix}
use Rattle.ic_keep.proofs.key.mix_all.Given as goal

abbrev pub invariant-loop-byte : goal.invariant-loop-byte
invariant-loop-byte l = fold mix l.key (drop l.byte-index l.bytes) ≡ fold mix l.fn.key l.bytes
