-- The shortest spelling of a number (WebAssembly Core 1.0, section 5.2.2; Candid, "Binary Format").
-- That nothing shorter spells it is proved in `src/laws.rt`: `shortest_unsigned`, `shortest_signed`.
use Rattle.std.specs.Prelude.{ℕ, zero, suc, ◌+◌, ◌/◌, List, [], ◌∷◌, Bool, true, false, nat_lt, ℤ, pos, negsuc}
use Rattle.ic_leb.specs.Magnitude.{low_bits}

-- seven bits a byte, lowest first, up to a last byte below `end`; there are at most that many bytes, and n + 1 are enough
unfoldable pub seven_bits_each : ℕ → Bool → ℕ → ℕ → List ℕ
seven_bits_each end negative zero n = []
seven_bits_each end negative (suc most) n =
    elim (nat_lt n end) [
      | true ↦ low_bits negative n ∷ []
      | false ↦ (128 + low_bits negative n) ∷ seven_bits_each end negative most (n / 128)
    ]

-- an unsigned number ends with a byte below 128
unfoldable pub unsigned_spelling : ℕ → List ℕ
unsigned_spelling n = seven_bits_each 128 false (suc n) n

-- a signed one keeps bit 6 of the last byte for the sign
unfoldable pub signed_spelling : ℤ → List ℕ
signed_spelling (pos n) = seven_bits_each 64 false (suc n) n
signed_spelling (negsuc n) = seven_bits_each 64 true (suc n) n
