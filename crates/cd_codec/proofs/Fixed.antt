-- Numbers of fixed width are read exactly.
use Rattle.std.proofs.Common.{◌≡◌, ℕ, zero, suc, ◌^◌, ◌%◌, ◌<◌, true, List, [], ◌∷◌, length, get_or, refl, sym, ap, subst, ◌∙◌, arith}
use Rattle.std.specs.Prelude.{nat_lt}
use Rattle.std.specs.Int.{Width, w8, w16, w32, w64, byte_len, byte_at, bytes_low_first, from_le_bytes, to_le_bytes, cast_signed}
use Rattle.std.proofs.lemmas.Bool.{lt-ltb, ltb-true}
use Rattle.std.proofs.lemmas.Nat.{le_bytes_2, le_bytes_4, le_bytes_8, from_le_bytes-to_le_bytes_2, from_le_bytes-to_le_bytes_4, from_le_bytes-to_le_bytes_8}
use Rattle.ic_base.specs.Reader.{bytes_at, filter_at, map_at}
use Rattle.ic_base.specs.Exact.{Exact}
use Rattle.ic_base.proofs.Exact.{bytes_exact, filter_exact, map_exact, reworded}
use Rattle.cd_codec.specs.Basic.{SpellsNatural, SpellsInteger}
use Rattle.cd_codec.specs.ReadPlain.{are_bytes, natural_at, integer_at}
use Rattle.cd_types.proofs.FaultLemmas.{both_true}

below_each : (bytes : List ℕ) → are_bytes bytes ≡ true → (i : ℕ) → get_or bytes i 0 < 256
below_each [] all i = omega arith
below_each (b ∷ bytes) all zero = ltb-true b 256 (both_true (nat_lt b 256) (are_bytes bytes) all).0
below_each (b ∷ bytes) all (suc i) = below_each bytes (both_true (nat_lt b 256) (are_bytes bytes) all).1 i

one_byte : (i n : ℕ) → byte_at i n < 256
one_byte zero n = omega arith
one_byte (suc i) n = omega arith

low_bytes : (i k n : ℕ) → are_bytes (bytes_low_first i k n) ≡ true
low_bytes i zero n = refl
low_bytes i (suc k) n = rw (lt-ltb (byte_at i n) 256 (one_byte i n), low_bytes (suc i) k n) refl

length_low : (i k n : ℕ) → length (bytes_low_first i k n) ≡ k
length_low i zero n = refl
length_low i (suc k) n = ap suc (length_low (suc i) k n)

-- what reading a number of this width and writing it have in common
pub record IsFixed (width : Width) : Type 0 where
  pub back : (bytes : List ℕ) → length bytes ≡ byte_len width → ((i : ℕ) → get_or bytes i 0 < 256) → to_le_bytes width (from_le_bytes width bytes) ≡ bytes
  pub again : (n : ℕ) → n < 256 ^ byte_len width → from_le_bytes width (to_le_bytes width n) ≡ n
  pub below : (bytes : List ℕ) → ((i : ℕ) → get_or bytes i 0 < 256) → from_le_bytes width bytes < 256 ^ byte_len width

one_back : (bytes : List ℕ) → length bytes ≡ 1 → ((i : ℕ) → get_or bytes i 0 < 256) → to_le_bytes w8 (from_le_bytes w8 bytes) ≡ bytes
one_back [] e fits = absurd (omega arith)
one_back (b ∷ []) e fits = let low : b % 256 ≡ b = omega (arith, fits 0) in ap (λ (n : ℕ). n ∷ []) low
one_back (b ∷ c ∷ bytes) e fits = absurd (omega arith)

pub fixed8 : IsFixed w8
fixed8 = record { back = one_back; again = λ n lt. omega arith; below = λ bytes fits. omega (arith, fits 0) }

pub fixed16 : IsFixed w16
fixed16 = record { back = λ bytes len fits. le_bytes_2 bytes _ len fits refl; again = λ n lt. from_le_bytes-to_le_bytes_2 n lt; below = λ bytes fits. omega (arith, fits 0, fits 1) }

pub fixed32 : IsFixed w32
fixed32 = record { back = λ bytes len fits. le_bytes_4 bytes _ len fits refl; again = λ n lt. from_le_bytes-to_le_bytes_4 n lt; below = λ bytes fits. omega (arith, fits 0, fits 1, fits 2, fits 3) }

pub fixed64 : IsFixed w64
fixed64 = record { back = λ bytes len fits. le_bytes_8 bytes _ len fits refl; again = λ n lt. from_le_bytes-to_le_bytes_8 n lt; below = λ bytes fits. omega (arith, fits 0, fits 1, fits 2, fits 3, fits 4, fits 5, fits 6, fits 7) }

pub natural_exact : (width : Width) → IsFixed width → Exact (SpellsNatural width) (natural_at width)
unfolding natural_at
natural_exact width fixed =
    reworded
    (λ n bs. (x : List ℕ) × (from_le_bytes width x ≡ n) × ((are_bytes x ≡ true) × ((length x ≡ byte_len width) × (bs ≡ x))))
    (SpellsNatural width)
    (map_at (from_le_bytes width) (filter_at are_bytes (bytes_at (byte_len width))))
    (λ n bs q. (to_le_bytes width n, fixed.again n q.0, (low_bytes 0 (byte_len width) n, (length_low 0 (byte_len width) n, q.1))))
    (λ n bs p.
    let fits = below_each p.0 p.2.0 in
    (subst (λ (m : ℕ). m < 256 ^ byte_len width) p.1 (fixed.below p.0 fits), p.2.1.1 ∙ sym (fixed.back p.0 p.2.1.0 fits) ∙ ap (to_le_bytes width) p.1))
    (map_exact (λ x bs. (are_bytes x ≡ true) × ((length x ≡ byte_len width) × (bs ≡ x))) (filter_at are_bytes (bytes_at (byte_len width))) (from_le_bytes width)
    (filter_exact (λ x bs. (length x ≡ byte_len width) × (bs ≡ x)) (bytes_at (byte_len width)) are_bytes (bytes_exact (byte_len width))))

pub integer_exact : (width : Width) → IsFixed width → Exact (SpellsInteger width) (integer_at width)
unfolding integer_at
integer_exact width fixed = map_exact (SpellsNatural width) (natural_at width) (cast_signed width) (natural_exact width fixed)
