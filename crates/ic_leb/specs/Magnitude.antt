-- A number without its sign, seven bits a byte.
use Rattle.std.specs.Prelude.{ℕ, ◌+◌, ◌-◌, ◌*◌, ◌%◌, List, [], ◌∷◌, Bool, true, false, Result, Ok, Err, nat_le, if◌then◌else◌}
use Rattle.ic_leb.specs.declared.fault.LebFault.{LebFault}
use Rattle.ic_leb.specs.declared.fault.LebFault.TheVariants.{Wide}

-- the lowest seven bits of n, or of -(n + 1) where the sign is set
abbrev pub low_bits : Bool → ℕ → ℕ
low_bits false n = n % 128
low_bits true n = 127 - n % 128

-- n where the bytes spell n, or -(n + 1) where the sign is set
unfoldable pub magnitude_of : Bool → List ℕ → ℕ
magnitude_of negative [] = 0
magnitude_of negative (b ∷ bytes) = low_bits negative b + 128 * magnitude_of negative bytes

-- n, unless it is above the largest
abbrev pub up_to : ℕ → ℕ → Result ℕ LebFault
up_to largest n = if nat_le n largest then Ok n else Err Wide
