-- Bits, and numbers as lists of bits.
use Rattle.std.specs.Prelude.{ℕ, ◌+◌, ◌^◌, ◌==◌, Bool, List, [], ◌∷◌, suc, zero, length, if◌then◌else◌}
use Rattle.std.specs.List.{flat_map}
use Rattle.std.specs.Int.{bit_at}

-- whether bit i of n is set; bit 0 is the lowest
abbrev pub bit : ℕ → ℕ → Bool
bit n i = bit_at n i == 1

-- the lowest `count` bits of n, from the highest of them down
unfoldable pub bits_of : ℕ → ℕ → List Bool
bits_of zero n = []
bits_of (suc i) n = bit n i ∷ bits_of i n

-- the bits of bytes, each from its highest bit down
abbrev pub bits : List ℕ → List Bool
bits = flat_map (bits_of 8)

-- the number whose bits these are, from the highest down
unfoldable pub number : List Bool → ℕ
number [] = 0
number (b ∷ bs) = (if b then 2 ^ length bs else 0) + number bs
