-- CRC-32 (ISO 3309): the bits of the bytes are a polynomial over two, and are divided by another.
use Rattle.std.specs.Prelude.{ℕ, ◌*◌, Bool, true, false, not, List, [], ◌∷◌, ◌++◌, suc, zero, length, replicate, reverse, if◌then◌else◌}
use Rattle.std.specs.List.{flat_map}
use Rattle.ic_principal.specs.Bits.{bits_of}

-- the bits of bytes in the order in which they are divided: each byte from its lowest bit up
unfoldable pub sent : List ℕ → List Bool
sent = flat_map (λ b. reverse (bits_of 8 b))

-- the bits, each flipped where the mask is set at its place
unfoldable pub flipped : List Bool → List Bool → List Bool
flipped [] bits = bits
flipped mask [] = []
flipped (set ∷ mask) (b ∷ bits) = (if set then not b else b) ∷ flipped mask bits

-- the polynomial without its term x^32, from x^31 down: x^26 + x^23 + x^22 + x^16 + x^12 + x^11 + x^10 + x^8 + x^7 + x^5 + x^4 + x^2 + x + 1
unfoldable pub polynomial : List Bool
polynomial = bits_of 32 0x04C11DB7

-- one turn of long division: the leading bit goes, and where it was set the divisor is taken from the rest
unfoldable pub turned : List Bool → List Bool
turned [] = []
turned (leading ∷ bits) = if leading then flipped polynomial bits else bits

-- what is left after that many turns
unfoldable pub remainder : ℕ → List Bool → List Bool
remainder zero bits = bits
remainder (suc turns) bits = remainder turns (turned bits)

-- thirty-two set bits
unfoldable pub ones : List Bool
ones = replicate 32 true

-- the bits of the bytes, and 32 zeros after them
unfoldable pub dividend : List ℕ → List Bool
dividend bytes = sent bytes ++ replicate 32 false

-- the 32 bits of the checksum, from the highest down: the dividend's first 32 bits are flipped, and so is the remainder
unfoldable pub checksum : List ℕ → List Bool
checksum bytes = reverse (flipped ones (remainder (8 * length bytes) (flipped ones (dividend bytes))))
