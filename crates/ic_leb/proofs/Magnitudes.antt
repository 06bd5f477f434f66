-- Numbers without their sign, seven bits a byte.
use Rattle.std.proofs.Common.{◌≡◌, ℕ, suc, zero, ◌+◌, ◌-◌, ◌*◌, ◌%◌, ◌^◌, ◌<◌, ◌≤◌, List, [], ◌∷◌, Bool, true, false, length, sym, ◌∙◌, ap, arith, drop, get_or}
use Rattle.std.specs.Prelude.{nat_le}
use Rattle.std.proofs.lemmas.List.{at_drop_more}
use Rattle.std.proofs.lemmas.Bool.{leb-true, leb-false}
use Rattle.std.proofs.Math.Nat.{pow-suc}
use Rattle.ic_leb.specs.Value.{is_negative}
use Rattle.ic_leb.specs.Magnitude.{low_bits, magnitude_of}
use Rattle.ic_leb.proofs.Values.{below_128, negative_one, negative_more}

-- one byte lower
pub one_lower : (negative : Bool) (bytes : List ℕ) (i n : ℕ) → 0 < i → i ≤ length bytes → n ≡ magnitude_of negative (drop i bytes) → magnitude_of negative (drop (i - 1) bytes) ≡ low_bits negative (get_or bytes (i - 1) 0) + 128 * n
unfolding magnitude_of
one_lower negative bytes i n some inside e =
    let here : i - 1 + 1 ≡ i = omega arith in
    at_drop_more (magnitude_of negative) bytes (i - 1) 0 (omega arith)
    ∙ ap (λ k. low_bits negative (get_or bytes (i - 1) 0) + 128 * magnitude_of negative (drop k bytes)) here
    ∙ ap (λ m. low_bits negative (get_or bytes (i - 1) 0) + 128 * m) (sym e)

-- the high bytes alone make no more
pub high_le_all : (negative : Bool) (i : ℕ) (bytes : List ℕ) → magnitude_of negative (drop i bytes) ≤ magnitude_of negative bytes
unfolding magnitude_of
high_le_all negative zero bytes = omega arith
high_le_all negative (suc i) [] = omega arith
high_le_all negative (suc i) (b ∷ bytes) = omega (arith, high_le_all negative i bytes)

pub magnitude_below : (negative : Bool) (bytes : List ℕ) → magnitude_of negative bytes < 128 ^ length bytes
unfolding magnitude_of
magnitude_below negative [] = omega arith
magnitude_below negative (b ∷ bytes) = omega (arith, magnitude_below negative bytes, below_128 negative b, pow-suc 128 (length bytes))

one_below : (b : ℕ) (negative : Bool) → nat_le 64 (b % 128) ≡ negative → low_bits negative b < 64
one_below b true e = omega (arith, leb-true 64 (b % 128) e)
one_below b false e = omega (arith, leb-false 64 (b % 128) e)

-- with its own sign, the last byte has six bits
pub signed_below : (negative : Bool) (b : ℕ) (bytes : List ℕ) → is_negative (b ∷ bytes) ≡ negative → magnitude_of negative (b ∷ bytes) < 64 * 128 ^ length bytes
unfolding magnitude_of
signed_below negative b [] e = omega (arith, one_below b negative (sym (negative_one b) ∙ e))
signed_below negative b (c ∷ bytes) e =
    omega (arith, signed_below negative c bytes (sym (negative_more b c bytes) ∙ e), below_128 negative b, pow-suc 128 (length bytes))
