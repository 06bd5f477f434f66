-- Lists of bytes whose first eight differ as a number are ordered as those numbers are.
-- Where their first sixteen do not differ, they are as long, and nothing comes after, they are one.
use Rattle.std.proofs.Common.{◌≡◌, ◌≢◌, ℕ, zero, suc, ◌+◌, ◌-◌, ◌*◌, ◌^◌, ◌<◌, ◌≤◌, ◌⊎◌, Bool, true, false, nat_eq, List, [], ◌∷◌, ◌++◌, length, get_or, take, drop, replicate, Less, Equal, Greater, refl, sym, ap, ◌∙◌, inl, inr, arith}
use Rattle.std.specs.Int.{w64, from_be_bytes}
use Rattle.std.specs.Ordering.{nat_cmp, ordering_then, ordering_reverse}
use Rattle.std.specs.Cmp.{nat_cmp_is}
use Rattle.std.specs.Cmp.Lexicographic.{pointwise, slice_cmp, nat_list_cmp_total, bytes_decides}
use Rattle.std.proofs.lemmas.Bool.{cases_order}
use Rattle.std.proofs.lemmas.List.{get_or-drop}
use Rattle.std.proofs.lemmas.List.Elements.{All-get_or}
use Rattle.std.proofs.lemmas.Nat.{mul-le, mul-add-lt, same_from_place}
use Rattle.std.proofs.Math.ListN.{get_or-eq_default}
use Rattle.std.proofs.Math.Nat.{pow-succ'}
use Rattle.ic_principal.specs.IsPrincipal.{IsPrincipal}
use Rattle.ic_principal.specs.Padded.{IsPadded}

-- the number that the first k digits in base 256 make, the highest first
abbrev pub number : ℕ → (ℕ → ℕ) → ℕ
number zero digit = 0
number (suc k) digit = digit 0 * 256 ^ k + number k (λ i. digit (suc i))

number-below : (k : ℕ) (digit : ℕ → ℕ) → ((i : ℕ) → digit i < 256) → number k digit < 256 ^ k
number-below zero digit h = omega arith
number-below (suc k) digit h = omega (arith, pow-succ' 256 k, mul-add-lt (digit 0) (256 ^ k) (number k (λ i. digit (suc i))) 256 (h 0) (number-below k (λ i. digit (suc i)) (λ i. h (suc i))))

number-zeros : (k : ℕ) → number k (λ i. 0) ≡ 0
number-zeros zero = refl
number-zeros (suc k) = omega (arith, number-zeros k)

abbrev pub at : List ℕ → ℕ → ℕ
at bytes i = get_or bytes i 0

-- the lower number is of the list that comes first
pub less : (k : ℕ) (p q : List ℕ) → ((i : ℕ) → at p i < 256) → ((i : ℕ) → at q i < 256) → number k (at p) < number k (at q) → slice_cmp nat_cmp p q ≡ Less
less zero p q hp hq lt = absurd (omega (arith, lt))
less (suc k) [] [] hp hq lt = absurd (omega (arith, lt))
less (suc k) [] (y ∷ q) hp hq lt = refl
less (suc k) (x ∷ p) [] hp hq lt = absurd (omega (arith, number-zeros k, lt))
less (suc k) (x ∷ p) (y ∷ q) hp hq lt = go (cases_order x y) (less k p q (λ i. hp (suc i)) (λ i. hq (suc i)))
  where
    lower : number k (at p) < 256 ^ k
    lower = number-below k (at p) (λ i. hp (suc i))

    higher : number k (at q) < 256 ^ k
    higher = number-below k (at q) (λ i. hq (suc i))

    sums : x * 256 ^ k + number k (at p) < y * 256 ^ k + number k (at q)
    sums = lt

    go : (x ≡ y) ⊎ ((x < y) ⊎ (y < x)) → (number k (at p) < number k (at q) → slice_cmp nat_cmp p q ≡ Less) → ordering_then (nat_cmp x y) (slice_cmp nat_cmp p q) ≡ Less
    go (inl e) behind = ap (λ r. ordering_then r (slice_cmp nat_cmp p q)) (sym (nat_cmp_is x y Equal e)) ∙ behind (omega (arith, ap (λ n. n * 256 ^ k) e, sums))
    go (inr (inl l)) behind = ap (λ r. ordering_then r (slice_cmp nat_cmp p q)) (sym (nat_cmp_is x y Less l))
    go (inr (inr g)) behind = absurd (omega (arith, mul-le (y + 1) (256 ^ k) x (256 ^ k) (omega (arith, g)) (omega arith), lower, higher, sums))

-- lists of at most k bytes are told by their number and their length
pub same : (k : ℕ) (p q : List ℕ) → ((i : ℕ) → at p i < 256) → ((i : ℕ) → at q i < 256) → length p ≡ length q → length p ≤ k → number k (at p) ≡ number k (at q) → p ≡ q
same k [] [] hp hq l few e = refl
same k [] (y ∷ q) hp hq l few e = absurd (omega (arith, l))
same k (x ∷ p) [] hp hq l few e = absurd (omega (arith, l))
same zero (x ∷ p) (y ∷ q) hp hq l few e = absurd (omega (arith, few))
same (suc k) (x ∷ p) (y ∷ q) hp hq l few e =
    let parts = same_from_place x (number k (at p)) y (number k (at q)) (256 ^ k) (number-below k (at p) (λ i. hp (suc i))) (number-below k (at q) (λ i. hq (suc i))) e in
    let rest = same k p q (λ i. hp (suc i)) (λ i. hq (suc i)) (omega (arith, l)) (omega (arith, few)) parts.1 in
    λ i. parts.0 i ∷ rest i

-- ---- the numbers that the code reads
below : (p : List ℕ) → IsPrincipal p → (i : ℕ) → at p i < 256
below p h i = go (cases_order i (length p))
  where
    outside : length p ≤ i → at p i < 256
    outside far = omega (arith, get_or-eq_default p 0 {n = i} far)

    go : (i ≡ length p) ⊎ ((i < length p) ⊎ (length p < i)) → at p i < 256
    go (inl e) = outside (omega (arith, e))
    go (inr (inl l)) = All-get_or (λ b. b < 256) p i 0 l h.bytes_below
    go (inr (inr g)) = outside (omega (arith, g))

pub word : (p : List ℕ) → number 8 (at p) ≡ from_be_bytes w64 p
word p = omega arith

pub words : (p : List ℕ) → number 16 (at p) ≡ from_be_bytes w64 p * 2 ^ 64 + from_be_bytes w64 (drop 8 p)
words p = omega (arith, get_or-drop 8 p 0 0, get_or-drop 8 p 1 0, get_or-drop 8 p 2 0, get_or-drop 8 p 3 0, get_or-drop 8 p 4 0, get_or-drop 8 p 5 0, get_or-drop 8 p 6 0, get_or-drop 8 p 7 0)

lower : (p q : List ℕ) → IsPrincipal p → IsPrincipal q → from_be_bytes w64 p < from_be_bytes w64 q → slice_cmp nat_cmp p q ≡ Less
lower p q hp hq lt = less 8 p q (below p hp) (below q hq) (omega (arith, lt, word p, word q))

-- where the first eight bytes differ as a number, they decide
pub decided : (p q : List ℕ) (a b : ℕ) → IsPrincipal p → IsPrincipal q → a ≡ from_be_bytes w64 p → b ≡ from_be_bytes w64 q → a ≢ b → nat_cmp a b ≡ slice_cmp nat_cmp p q
decided p q a b hp hq ea eb n = go (cases_order a b)
  where
    go : (a ≡ b) ⊎ ((a < b) ⊎ (b < a)) → nat_cmp a b ≡ slice_cmp nat_cmp p q
    go (inl e) = absurd (n e)
    go (inr (inl l)) = sym (nat_cmp_is a b Less l) ∙ sym (lower p q hp hq (omega (arith, l, ea, eb)))
    go (inr (inr g)) = sym (nat_cmp_is a b Greater g) ∙ ap ordering_reverse (sym (lower q p hq hp (omega (arith, g, ea, eb)))) ∙ sym (nat_list_cmp_total.antisymm p q)

-- where the first sixteen do not, and the lengths are equal and no more, the lists are one
pub alike : (p q : List ℕ) → IsPrincipal p → IsPrincipal q → length p ≡ length q → length p ≤ 16 → from_be_bytes w64 p ≡ from_be_bytes w64 q → from_be_bytes w64 (drop 8 p) ≡ from_be_bytes w64 (drop 8 q) → p ≡ q
alike p q hp hq l few e f = same 16 p q (below p hp) (below q hq) l few (omega (arith, words p, words q, e, f))

-- the padded array has the bytes that it keeps, and zeros after them
pub kept : (array : List ℕ) (len i : ℕ) → IsPadded array len → at (take len array) i ≡ at array i
kept array len i h = sym (ap (λ l. at l i) h.zeros ∙ behind (take len array) (29 - length (take len array)) i)
  where
    zero-at : (n i : ℕ) → at (replicate n 0) i ≡ 0
    zero-at zero i = refl
    zero-at (suc n) zero = refl
    zero-at (suc n) (suc i) = zero-at n i

    behind : (p : List ℕ) (n i : ℕ) → at (p ++ replicate n 0) i ≡ at p i
    behind [] n i = zero-at n i
    behind (x ∷ p) n zero = refl
    behind (x ∷ p) n (suc i) = behind p n i

pub other : (p q : List ℕ) → p ≢ q → false ≡ pointwise nat_eq p q
other p q n = go (pointwise nat_eq p q) refl
  where
    go : (b : Bool) → pointwise nat_eq p q ≡ b → false ≡ pointwise nat_eq p q
    go true e = absurd (n ((bytes_decides p q).0 e))
    go false e = sym e
