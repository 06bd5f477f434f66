-- Integers of n bits (WebAssembly Core 1.0, 4.3.2; Core 2.0, 4.3.2): the numbers below 2 ^ n. Each
-- operation is named as there, with n first. Only divisions and remainders may have no result.
use Rattle.std.specs.Prelude.{ℕ, Bool, false, ◌+◌, ◌-◌, ◌*◌, ◌/◌, ◌%◌, ◌^◌, ◌==◌, nat_lt, nat_le, not, ℤ, pos, negsuc, ◌-ℤ◌, int_lt, int_le, int_div, int_rem, bit_and, bit_or, bit_xor, count_ones, Result, Ok, Err, if◌then◌else◌}
use Rattle.std.specs.Int.{int_shr, from_bool}
use Rattle.std.specs.Int.Count.{count_leading_zeros, count_trailing_zeros}
use Rattle.wm_numeric.specs.declared.failure.Failure.{Failure}
use Rattle.wm_numeric.specs.declared.failure.Failure.TheVariants.{DivideByZero, Overflow}

-- ---- signed interpretation

-- the signed number that i stands for, in two's complement
abbrev pub signed : ℕ → ℕ → ℤ
signed n i = if nat_lt i (2 ^ (n - 1)) then pos i else (pos i -ℤ pos (2 ^ n))

-- the integer that stands for z: z modulo 2 ^ n
abbrev pub unsigned : ℕ → ℤ → ℕ
unsigned n (pos i) = i % 2 ^ n
unsigned n (negsuc i) = 2 ^ n - 1 - i % 2 ^ n

-- ---- arithmetic

abbrev pub iadd : ℕ → ℕ → ℕ → ℕ
iadd n i j = (i + j) % 2 ^ n

abbrev pub isub : ℕ → ℕ → ℕ → ℕ
isub n i j = (i + 2 ^ n - j) % 2 ^ n

abbrev pub imul : ℕ → ℕ → ℕ → ℕ
imul n i j = (i * j) % 2 ^ n

abbrev pub idiv_u : ℕ → ℕ → ℕ → Result ℕ Failure
idiv_u n i j = if j == 0 then Err DivideByZero else Ok (i / j)

-- whether the quotient is 2 ^ (n - 1), the one that no integer of n bits stands for
abbrev pub overflows : ℕ → ℤ → Bool
overflows n (pos q) = q == 2 ^ (n - 1)
overflows n (negsuc q) = false

-- `int_div` rounds toward zero
abbrev pub idiv_s : ℕ → ℕ → ℕ → Result ℕ Failure
idiv_s n i j =
    let quotient = int_div (signed n i) (signed n j) in
    if j == 0 then Err DivideByZero else if overflows n quotient then Err Overflow else Ok (unsigned n quotient)

abbrev pub irem_u : ℕ → ℕ → ℕ → Result ℕ Failure
irem_u n i j = if j == 0 then Err DivideByZero else Ok (i % j)

-- `int_rem` has the sign of the dividend
abbrev pub irem_s : ℕ → ℕ → ℕ → Result ℕ Failure
irem_s n i j = if j == 0 then Err DivideByZero else Ok (unsigned n (int_rem (signed n i) (signed n j)))

-- ---- bits

abbrev pub iand : ℕ → ℕ → ℕ → ℕ
iand n i j = bit_and i j

abbrev pub ior : ℕ → ℕ → ℕ → ℕ
ior n i j = bit_or i j

abbrev pub ixor : ℕ → ℕ → ℕ → ℕ
ixor n i j = bit_xor i j

-- counts are taken modulo n
abbrev pub ishl : ℕ → ℕ → ℕ → ℕ
ishl n i j = (i * 2 ^ (j % n)) % 2 ^ n

abbrev pub ishr_u : ℕ → ℕ → ℕ → ℕ
ishr_u n i j = i / 2 ^ (j % n)

-- `int_shr` rounds down, as a shift does that copies the sign's bit
abbrev pub ishr_s : ℕ → ℕ → ℕ → ℕ
ishr_s n i j = unsigned n (int_shr (signed n i) (j % n))

abbrev pub irotl : ℕ → ℕ → ℕ → ℕ
irotl n i j = (i * 2 ^ (j % n)) % 2 ^ n + i / 2 ^ (n - j % n)

abbrev pub irotr : ℕ → ℕ → ℕ → ℕ
irotr n i j = i / 2 ^ (j % n) + (i * 2 ^ (n - j % n)) % 2 ^ n

abbrev pub iclz : ℕ → ℕ → ℕ
iclz n i = count_leading_zeros n i

abbrev pub ictz : ℕ → ℕ → ℕ
ictz n i = count_trailing_zeros n i

abbrev pub ipopcnt : ℕ → ℕ → ℕ
ipopcnt n i = count_ones i

-- ---- comparisons: 1 where it holds, else 0

abbrev pub ieqz : ℕ → ℕ → ℕ
ieqz n i = from_bool (i == 0)

abbrev pub ieq : ℕ → ℕ → ℕ → ℕ
ieq n i j = from_bool (i == j)

abbrev pub ine : ℕ → ℕ → ℕ → ℕ
ine n i j = from_bool (not (i == j))

abbrev pub ilt_u : ℕ → ℕ → ℕ → ℕ
ilt_u n i j = from_bool (nat_lt i j)

abbrev pub ilt_s : ℕ → ℕ → ℕ → ℕ
ilt_s n i j = from_bool (int_lt (signed n i) (signed n j))

abbrev pub igt_u : ℕ → ℕ → ℕ → ℕ
igt_u n i j = from_bool (nat_lt j i)

abbrev pub igt_s : ℕ → ℕ → ℕ → ℕ
igt_s n i j = from_bool (int_lt (signed n j) (signed n i))

abbrev pub ile_u : ℕ → ℕ → ℕ → ℕ
ile_u n i j = from_bool (nat_le i j)

abbrev pub ile_s : ℕ → ℕ → ℕ → ℕ
ile_s n i j = from_bool (int_le (signed n i) (signed n j))

abbrev pub ige_u : ℕ → ℕ → ℕ → ℕ
ige_u n i j = from_bool (nat_le j i)

abbrev pub ige_s : ℕ → ℕ → ℕ → ℕ
ige_s n i j = from_bool (int_le (signed n j) (signed n i))

-- ---- conversions (4.3.4)

-- from more bits to n
abbrev pub wrap : ℕ → ℕ → ℕ
wrap n i = i % 2 ^ n

-- from m bits to more: the same number
abbrev pub extend_u : ℕ → ℕ → ℕ → ℕ
extend_u m n i = i

-- from m bits to n: the same signed number
abbrev pub extend_s : ℕ → ℕ → ℕ → ℕ
extend_s m n i = unsigned n (signed m i)

-- the lowest m bits, with their sign (Core 2.0, 4.3.2)
abbrev pub iextend_s : ℕ → ℕ → ℕ → ℕ
iextend_s n m i = extend_s m n (wrap m i)
