use Rattle.std.proofs.Common.{◌≡◌, ℕ, ◌+◌, Bool, false, List, ◌++◌, replicate, reverse}
use Rattle.ic_principal.specs.Bits.{bits_of}
use Rattle.ic_principal.specs.Checksum.{flipped, remainder}
use Rattle.ic_principal.proofs.checksum.divided_by_byte.Given as goal

-- the turns that are left give from here what eight give from the start
abbrev pub invariant-loop : goal.invariant-loop
invariant-loop l = (k : ℕ) (bits : List Bool) → k + l.counter ≡ 8
    → remainder k (flipped (reverse (bits_of 32 l.rest)) (replicate k false ++ bits)) ≡ remainder 8 (flipped (reverse (bits_of 32 l.fn.register)) (replicate 8 false ++ bits))
