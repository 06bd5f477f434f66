-- Operations on integers of n bits give integers of n bits.
use Rattle.std.proofs.Common.{ℕ, zero, suc, ◌+◌, ◌-◌, ◌*◌, ◌/◌, ◌%◌, ◌^◌, ◌<◌, ◌==◌, Bool, true, false, ℤ, pos, negsuc, int_div, int_rem, Result, Ok, Err, if◌then◌else◌, arith}
use Rattle.std.proofs.Math.Nat.{div-le_self, mod-le, mod-lt, lt_of_le_of_lt}
use Rattle.std.proofs.lemmas.Nat.{pow_pos, and_le_l, or_lt, xor_lt, shr_le, leading_le, trailing_le, ones-le}
use Rattle.std.specs.Result.{IfOk}
use Rattle.std.specs.Int.{from_bool, int_shr}
use Rattle.wm_numeric.specs.declared.failure.Failure.{Failure}
use Rattle.wm_numeric.specs.declared.failure.Failure.TheVariants.{DivideByZero, Overflow}
use Rattle.wm_numeric.proofs.Rotations.{joined_below}
use Rattle.wm_numeric.specs.Integers.{signed, unsigned, overflows, iadd, isub, imul, idiv_u, idiv_s, irem_u, irem_s, iand, ior, ixor, ishl, ishr_u, ishr_s, irotl, irotr, iclz, ictz, ipopcnt, wrap, extend_s}

-- n is below 2 ^ n, so a count of bits is an integer of n bits
pub count_below : (n : ℕ) → n < 2 ^ n
count_below zero = omega arith
count_below (suc n) = omega (arith, count_below n, pow_pos n)

pub unsigned_below : (n : ℕ) (z : ℤ) → unsigned n z < 2 ^ n
unsigned_below n (pos i) = mod-lt i (pow_pos n)
unsigned_below n (negsuc i) = omega (arith, pow_pos n)

pub truth_below : (b : Bool) → from_bool b < 2 ^ 32
truth_below true = omega arith
truth_below false = omega arith

-- ---- two operands

pub iadd_below : (n i j : ℕ) → i < 2 ^ n → j < 2 ^ n → iadd n i j < 2 ^ n
iadd_below n i j p q = mod-lt (i + j) (pow_pos n)

pub isub_below : (n i j : ℕ) → i < 2 ^ n → j < 2 ^ n → isub n i j < 2 ^ n
isub_below n i j p q = mod-lt (i + 2 ^ n - j) (pow_pos n)

pub imul_below : (n i j : ℕ) → i < 2 ^ n → j < 2 ^ n → imul n i j < 2 ^ n
imul_below n i j p q = mod-lt (i * j) (pow_pos n)

pub iand_below : (n i j : ℕ) → i < 2 ^ n → j < 2 ^ n → iand n i j < 2 ^ n
iand_below n i j p q = lt_of_le_of_lt (and_le_l i j) p

pub ior_below : (n i j : ℕ) → i < 2 ^ n → j < 2 ^ n → ior n i j < 2 ^ n
ior_below = or_lt

pub ixor_below : (n i j : ℕ) → i < 2 ^ n → j < 2 ^ n → ixor n i j < 2 ^ n
ixor_below = xor_lt

pub ishl_below : (n i j : ℕ) → i < 2 ^ n → j < 2 ^ n → ishl n i j < 2 ^ n
ishl_below n i j p q = mod-lt (i * 2 ^ (j % n)) (pow_pos n)

pub ishr_u_below : (n i j : ℕ) → i < 2 ^ n → j < 2 ^ n → ishr_u n i j < 2 ^ n
ishr_u_below n i j p q = lt_of_le_of_lt (shr_le i (j % n)) p

pub ishr_s_below : (n i j : ℕ) → i < 2 ^ n → j < 2 ^ n → ishr_s n i j < 2 ^ n
ishr_s_below n i j p q = unsigned_below n (int_shr (signed n i) (j % n))

pub irotl_below : (n i j : ℕ) → i < 2 ^ n → j < 2 ^ n → irotl n i j < 2 ^ n
irotl_below zero i j p q = omega (arith, mod-lt (i * 2 ^ (j % 0)) (pow_pos 0), div-le_self i (2 ^ (0 - j % 0)))
irotl_below (suc n) i j p q =
    let k : j % suc n < suc n = mod-lt j (omega arith) in
    joined_below (suc n) (j % suc n) (suc n - j % suc n) i (omega arith) p

pub irotr_below : (n i j : ℕ) → i < 2 ^ n → j < 2 ^ n → irotr n i j < 2 ^ n
irotr_below zero i j p q = omega (arith, mod-lt (i * 2 ^ (0 - j % 0)) (pow_pos 0), div-le_self i (2 ^ (j % 0)))
irotr_below (suc n) i j p q =
    let k : j % suc n < suc n = mod-lt j (omega arith) in
    omega (arith, joined_below (suc n) (suc n - j % suc n) (j % suc n) i (omega arith) p)

-- ---- divisions

guarded : (b : Bool) (f : Failure) (r : Result ℕ Failure) (m : ℕ) → IfOk r (λ v. v < m) → IfOk (if b then Err f else r) (λ v. v < m)
guarded true f r m h = tt
guarded false f r m h = h

pub idiv_u_below : (n i j : ℕ) → i < 2 ^ n → j < 2 ^ n → IfOk (idiv_u n i j) (λ v. v < 2 ^ n)
idiv_u_below n i j p q = guarded (j == 0) DivideByZero (Ok (i / j)) (2 ^ n) (lt_of_le_of_lt (div-le_self i j) p)

pub idiv_s_below : (n i j : ℕ) → i < 2 ^ n → j < 2 ^ n → IfOk (idiv_s n i j) (λ v. v < 2 ^ n)
idiv_s_below n i j p q =
    let quotient : ℤ = int_div (signed n i) (signed n j) in
    guarded (j == 0) DivideByZero (if overflows n quotient then Err Overflow else Ok (unsigned n quotient)) (2 ^ n)
    (guarded (overflows n quotient) Overflow (Ok (unsigned n quotient)) (2 ^ n) (unsigned_below n quotient))

pub irem_u_below : (n i j : ℕ) → i < 2 ^ n → j < 2 ^ n → IfOk (irem_u n i j) (λ v. v < 2 ^ n)
irem_u_below n i j p q = guarded (j == 0) DivideByZero (Ok (i % j)) (2 ^ n) (lt_of_le_of_lt (mod-le i j) p)

pub irem_s_below : (n i j : ℕ) → i < 2 ^ n → j < 2 ^ n → IfOk (irem_s n i j) (λ v. v < 2 ^ n)
irem_s_below n i j p q =
    let rest : ℕ = unsigned n (int_rem (signed n i) (signed n j)) in
    guarded (j == 0) DivideByZero (Ok rest) (2 ^ n) (unsigned_below n (int_rem (signed n i) (signed n j)))

-- ---- one operand

pub iclz_below : (n i : ℕ) → i < 2 ^ n → iclz n i < 2 ^ n
iclz_below n i p = lt_of_le_of_lt (leading_le n i) (count_below n)

pub ictz_below : (n i : ℕ) → i < 2 ^ n → ictz n i < 2 ^ n
ictz_below n i p = lt_of_le_of_lt (trailing_le n i) (count_below n)

pub ipopcnt_below : (n i : ℕ) → i < 2 ^ n → ipopcnt n i < 2 ^ n
ipopcnt_below n i p = lt_of_le_of_lt (ones-le n i p) (count_below n)

pub wrap_below : (n i : ℕ) → wrap n i < 2 ^ n
wrap_below n i = mod-lt i (pow_pos n)

pub extend_s_below : (m n i : ℕ) → extend_s m n i < 2 ^ n
extend_s_below m n i = unsigned_below n (signed m i)
