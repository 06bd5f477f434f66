-- Numbers and their bytes, the lowest first, at each size.
use Rattle.std.proofs.Common.{◌≡◌, ℕ, suc, zero, suc-add, ◌+◌, ◌-◌, ◌≤◌, inl, inr, List, ◌∷◌, ◌++◌, length, take, drop, replicate, get_or, refl, sym, ap, subst, ◌∙◌, arith}
use Rattle.std.proofs.lemmas.Bool.{cases_lt}
use Rattle.std.proofs.lemmas.List.{length-replicate, get_or-replicate, drop-replicate, get_or_past, get_or_append_left, get_or-append_right}
use Rattle.std.specs.Int.{bytes_low_first, byte_at, byte_worth, sum_through, from_le_bytes, w64}

take-bytes_low_first : (n r i v : ℕ) → take n (bytes_low_first i (n + r) v) ≡ bytes_low_first i n v
take-bytes_low_first zero r i v = refl
take-bytes_low_first (suc n) r i v = rw suc-add (ap (λ (bytes : List ℕ). byte_at i v ∷ bytes) (take-bytes_low_first n r (suc i) v))

-- a number's n lowest bytes are the front of its eight
pub front_bytes : (n v : ℕ) → n ≤ 8 → take n (bytes_low_first 0 8 v) ≡ bytes_low_first 0 n v
front_bytes n v few =
    let e : n + (8 - n) ≡ 8 = omega arith in
    let P : ℕ → Type 0 = λ m. take n (bytes_low_first 0 m v) ≡ bytes_low_first 0 n v in
    subst P e (take-bytes_low_first n (8 - n) 0 v)

sum_through-agree : (f g : ℕ → ℕ) → ((i : ℕ) → f i ≡ g i) → (n : ℕ) → sum_through f n ≡ sum_through g n
sum_through-agree f g same zero = same zero
sum_through-agree f g same (suc n) = rw (sum_through-agree f g same n, same (suc n)) refl

zero_at : (m i : ℕ) → ◌≡◌ {A = ℕ} (get_or (replicate m 0) i 0) 0
zero_at m i = elim (cases_lt i m) [
  | inl within ↦ get_or-replicate m i 0 0 within
  | inr past ↦ get_or_past (replicate m 0) i 0 (rw (length-replicate {A = ℕ} m 0) past)
]

-- lists that agree at each place spell the same number
pub from_le_bytes-agree : (xs ys : List ℕ) → ((i : ℕ) → get_or xs i 0 ≡ get_or ys i 0) → from_le_bytes w64 xs ≡ from_le_bytes w64 ys
from_le_bytes-agree xs ys same = sum_through-agree (λ i. byte_worth i (get_or xs i 0)) (λ i. byte_worth i (get_or ys i 0)) (λ i. ap (byte_worth i) (same i)) 7

-- zeros after the bytes do not matter
pub get_or-padded : (bytes : List ℕ) (n m i : ℕ) → get_or (bytes ++ drop n (replicate m 0)) i 0 ≡ get_or bytes i 0
get_or-padded bytes n m i = elim (cases_lt i (length bytes)) [
  | inl within ↦ get_or_append_left bytes (drop n (replicate m 0)) 0 i within
  | inr past ↦ get_or-append_right bytes (drop n (replicate m 0)) (length bytes) i 0 refl past ∙ rw (drop-replicate {X = ℕ} n m 0) (zero_at (m - n) (i - length bytes)) ∙ sym (get_or_past bytes i 0 past)
]
