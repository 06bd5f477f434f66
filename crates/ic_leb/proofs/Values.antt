-- What the bytes of one number stand for, by recursion from the first byte on.
use Rattle.std.proofs.Common.{◌≡◌, ℕ, suc, ◌+◌, ◌-◌, ◌*◌, ◌%◌, ◌^◌, ◌<◌, List, [], ◌∷◌, Bool, true, false, length, refl, sym, ◌∙◌, ap, arith, get_or}
use Rattle.std.specs.Prelude.{pos, ◌-ℤ◌, nat_le, if◌then◌else◌}
use Rattle.std.specs.List.{sum_by, enumerate_from}
use Rattle.std.specs.Int.{complement_if}
use Rattle.std.proofs.lemmas.List.Sums.{sum_by-cons}
use Rattle.std.proofs.lemmas.Int.{ints}
use Rattle.std.proofs.lemmas.Nat.{pow-add}
use Rattle.std.proofs.Math.Nat.{mul-add, mul_assoc, mul_comm, one-mul, pow-suc}
use Rattle.ic_leb.specs.Value.{unsigned_value, is_negative, signed_value}
use Rattle.ic_leb.specs.Magnitude.{low_bits, magnitude_of}

abbrev term : ℕ × ℕ → ℕ
term (i, byte) = byte % 128 * 128 ^ i

pub below_128 : (negative : Bool) (n : ℕ) → low_bits negative n < 128
below_128 true n = omega arith
below_128 false n = omega arith

-- the terms from place k on have a factor 128 ^ k
terms : (k : ℕ) (bytes : List ℕ) → sum_by term (enumerate_from k bytes) ≡ 128 ^ k * magnitude_of false bytes
unfolding magnitude_of
terms k [] = omega arith
terms k (b ∷ bytes) =
    let p = 128 ^ k in
    let m = magnitude_of false bytes in
    let here : sum_by term ((k, b) ∷ enumerate_from (k + 1) bytes) ≡ b % 128 * p + sum_by term (enumerate_from (k + 1) bytes) = sum_by-cons term (k, b) (enumerate_from (k + 1) bytes) in
    let after : sum_by term (enumerate_from (k + 1) bytes) ≡ p * 128 * m = terms (k + 1) bytes ∙ ap (λ q. q * m) (pow-add 128 k 1) in
    let parts : p * (b % 128 + 128 * m) ≡ p * (b % 128) + p * (128 * m) = mul-add p (b % 128) (128 * m) in
    here ∙ ap (λ q. b % 128 * p + q) (after ∙ mul_assoc p 128 m) ∙ ap (λ q. q + p * (128 * m)) (mul_comm (b % 128) p) ∙ sym parts

pub unsigned_magnitude : (bytes : List ℕ) → unsigned_value bytes ≡ magnitude_of false bytes
unfolding unsigned_value
unsigned_magnitude bytes = terms 0 bytes ∙ one-mul (magnitude_of false bytes)

-- what is complemented byte by byte is complemented as a whole
complements : (bytes : List ℕ) → magnitude_of true bytes + magnitude_of false bytes + 1 ≡ 128 ^ length bytes
unfolding magnitude_of
complements [] = refl
complements (b ∷ bytes) = omega (arith, complements bytes, pow-suc 128 (length bytes))

-- less the power, it is the complement that is negative
by_sign : (negative : Bool) (bytes : List ℕ) → (if negative then pos (unsigned_value bytes) -ℤ pos (128 ^ length bytes) else pos (unsigned_value bytes)) ≡ complement_if negative (magnitude_of negative bytes)
by_sign true bytes = omega (arith, ints, unsigned_magnitude bytes, complements bytes)
by_sign false bytes = ap pos (unsigned_magnitude bytes)

pub signed_magnitude : (bytes : List ℕ) → signed_value bytes ≡ complement_if (is_negative bytes) (magnitude_of (is_negative bytes) bytes)
unfolding signed_value
signed_magnitude bytes = by_sign (is_negative bytes) bytes

pub negative_one : (b : ℕ) → is_negative (b ∷ []) ≡ nat_le 64 (b % 128)
unfolding is_negative
negative_one b = refl

pub negative_more : (b c : ℕ) (bytes : List ℕ) → is_negative (b ∷ c ∷ bytes) ≡ is_negative (c ∷ bytes)
unfolding is_negative
negative_more b c bytes =
    let n = length bytes in
    let before : suc (suc n) - 1 ≡ suc n = omega arith in
    let after : n ≡ suc n - 1 = omega arith in
    ap (λ k. nat_le 64 (get_or (b ∷ c ∷ bytes) k 0 % 128)) before ∙ ap (λ k. nat_le 64 (get_or (c ∷ bytes) k 0 % 128)) after
