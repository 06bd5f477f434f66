-- What is read from the front of the bytes, as functions.
use Rattle.std.specs.Prelude.{ℕ, zero, suc, ◌+◌, ◌-◌, ◌^◌, List, [], ◌∷◌, take, drop, Bool, Some, None, Result, Ok, Err, nat_lt, ℤ, pos, negsuc, if◌then◌else◌}
use Rattle.ic_base.specs.Reader.{Reader}
use Rattle.ic_leb.specs.declared.width.Width.{Width}
use Rattle.ic_leb.specs.declared.fault.LebFault.{LebFault}
use Rattle.ic_leb.specs.declared.fault.LebFault.TheVariants.{Short, Long, Wide}
use Rattle.ic_leb.specs.Width.{bits, most_bytes}
use Rattle.ic_leb.specs.Value.{unsigned_value, signed_value}

-- one byte more
abbrev pub and_one : Result ℕ LebFault → Result ℕ LebFault
and_one (Ok size) = Ok (suc size)
and_one (Err e) = Err e

-- how many bytes the number at the front has, of at most that many
unfoldable pub size_at : ℕ → List ℕ → Result ℕ LebFault
size_at zero bytes = Err Long
size_at (suc most) [] = Err Short
size_at (suc most) (b ∷ bytes) = if nat_lt b 128 then Ok 1 else and_one (size_at most bytes)

-- what that many bytes stand for, beside their number, where it fits
abbrev pub value_of : {A : Type 0} → (List ℕ → A) → (A → Bool) → List ℕ → Result ℕ LebFault → Result (A × ℕ) LebFault
value_of value fits bytes (Err e) = Err e
value_of value fits bytes (Ok size) = if fits (value (take size bytes)) then Ok (value (take size bytes), size) else Err Wide

-- the number at the front, and how many bytes it has
abbrev pub number_at : {A : Type 0} → (List ℕ → A) → (A → Bool) → ℕ → List ℕ → Result (A × ℕ) LebFault
number_at value fits most bytes = value_of value fits bytes (size_at most bytes)

-- n is one of the unsigned numbers of the width
abbrev pub fits_unsigned : Width → ℕ → Bool
fits_unsigned width n = nat_lt n (2 ^ bits width)

-- z is one of the signed numbers of the width
abbrev pub fits_signed : Width → ℤ → Bool
fits_signed width (pos n) = nat_lt n (2 ^ (bits width - 1))
fits_signed width (negsuc n) = nat_lt n (2 ^ (bits width - 1))

-- the unsigned number at the front, or why there is none
unfoldable pub unsigned_at : Width → List ℕ → Result (ℕ × ℕ) LebFault
unsigned_at width = number_at unsigned_value (fits_unsigned width) (most_bytes width)

-- the signed number at the front, or why there is none
unfoldable pub signed_at : Width → List ℕ → Result (ℤ × ℕ) LebFault
signed_at width = number_at signed_value (fits_signed width) (most_bytes width)

-- the number and the bytes after it
abbrev pub and_rest : {A : Type 0} → Result (A × ℕ) LebFault → Reader A
and_rest (Ok x) bytes = Some (x.0, drop x.1 bytes)
and_rest (Err e) bytes = None

-- the unsigned number at the front, and the bytes after it
unfoldable pub unsigned_reader : Width → Reader ℕ
unsigned_reader width bytes = and_rest (unsigned_at width bytes) bytes

-- the signed number at the front, and the bytes after it
unfoldable pub signed_reader : Width → Reader ℤ
signed_reader width bytes = and_rest (signed_at width bytes) bytes

-- the number and the place after it, where it is read from a place on
abbrev pub read_from : {A : Type 0} → ℕ → Result (A × ℕ) LebFault → Result (A × ℕ) LebFault
read_from at (Ok x) = Ok (x.0, at + x.1)
read_from at (Err e) = Err e
