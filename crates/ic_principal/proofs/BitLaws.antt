-- Laws of bits, and of numbers as lists of bits.
use Rattle.std.proofs.Common.{◌≡◌, ℕ, suc, zero, ◌+◌, ◌-◌, ◌*◌, ◌/◌, ◌%◌, ◌^◌, ◌<◌, ◌≤◌, Bool, true, false, List, [], ◌∷◌, ◌++◌, length, take, reverse, replicate, bit_or, add_comm, refl, sym, ap, ◌∙◌, subst, arith, length-append, append_assoc, append-nil, get_or}
use Rattle.std.specs.Prelude.{◌==◌, if◌then◌else◌}
use Rattle.std.specs.Int.{bit_at, to_be_bytes, bytes_high_first, w32}
use Rattle.std.specs.List.{flat_map}
use Rattle.std.proofs.Math.Nat.{pow-suc, mod-eq_of_lt}
use Rattle.std.proofs.lemmas.List.{reverse-append, take_more}
use Rattle.std.proofs.lemmas.Grind.{flat_map-append}
use Rattle.std.proofs.lemmas.Nat.{shr_split, mod-pow-add, mod_below, pow_pos, pow-add, shl_whole, or_shifted, mul-add-lt, shr_below}
use Rattle.std.proofs.lemmas.Nat.Bits.{bit_at_cat_low, bit_at_cat_high, bit_at_above, bit_at-lt}
use Rattle.ic_principal.specs.Bits.{bit, bits_of, bits, number}

pub length-bits_of : (n v : ℕ) → length (bits_of n v) ≡ n
unfolding bits_of
length-bits_of zero v = refl
length-bits_of (suc n) v = ap suc (length-bits_of n v)

pub length-bits : (bytes : List ℕ) → length (bits bytes) ≡ 8 * length bytes
length-bits [] = refl
length-bits (b ∷ bs) = omega (arith, length-append (bits_of 8 b) (bits bs), length-bits_of 8 b, length-bits bs)

-- the lowest bits of a long number are those of its end
bits_of-low : (n r a b : ℕ) → n ≤ r → bits_of n (a * 2 ^ r + b) ≡ bits_of n b
unfolding bits_of
bits_of-low zero r a b h = refl
bits_of-low (suc n) r a b h =
    ap (λ x. (x == 1) ∷ bits_of n (a * 2 ^ r + b)) (bit_at_cat_low a r b n (omega arith)) ∙ ap (λ bs. bit b n ∷ bs) (bits_of-low n r a b (omega arith))

-- the bits of a long number are those of its front and those of its end
pub bits_of-cat : (n w r a b : ℕ) → n ≡ w + r → b < 2 ^ r → bits_of n (a * 2 ^ r + b) ≡ bits_of w a ++ bits_of r b
unfolding bits_of
bits_of-cat n zero r a b e h =
    let same : n ≡ r = omega arith in bits_of-low n r a b (omega arith) ∙ ap (λ k. bits_of k b) same
bits_of-cat zero (suc w) r a b e h = absurd (omega arith)
bits_of-cat (suc n) (suc w) r a b e h =
    let place : n - r ≡ w = omega arith in
    let top : bit_at (a * 2 ^ r + b) n ≡ bit_at a w = bit_at_cat_high a r b n h (omega arith) ∙ ap (λ k. bit_at a k) place in
    ap (λ x. (x == 1) ∷ bits_of n (a * 2 ^ r + b)) top ∙ ap (λ bs. bit a w ∷ bs) (bits_of-cat n w r a b (omega arith) h)

-- the same where a number is cut
pub bits_of-cut : (n w r v : ℕ) → n ≡ w + r → bits_of n v ≡ bits_of w (v / 2 ^ r) ++ bits_of r (v % 2 ^ r)
bits_of-cut n w r v e =
    ap (λ x. bits_of n x) (sym (shr_split v r)) ∙ bits_of-cat n w r (v / 2 ^ r) (v % 2 ^ r) e (mod_below v (2 ^ r) (pow_pos r))

-- only as many bits are read as there are
pub bits_of-mod : (n v : ℕ) → bits_of n (v % 2 ^ n) ≡ bits_of n v
bits_of-mod n v = sym (ap (λ x. bits_of n x) (sym (shr_split v n)) ∙ bits_of-low n n (v / 2 ^ n) (v % 2 ^ n) (omega arith))

bits_of-split : (n w r v : ℕ) → n ≡ w + r → bits_of n v ≡ bits_of w (v / 2 ^ r) ++ bits_of r v
bits_of-split n w r v e = bits_of-cut n w r v e ∙ ap (λ l. bits_of w (v / 2 ^ r) ++ l) (bits_of-mod r v)

-- a number of four bytes
pub bits-to_be_bytes : (v : ℕ) → bits (to_be_bytes w32 v) ≡ bits_of 32 v
bits-to_be_bytes v =
    ap (λ l. l ++ bits (bytes_high_first 3 v)) (bits_of-mod 8 (v / 2 ^ 24))
    ∙ ap (λ l. bits_of 8 (v / 2 ^ 24) ++ l) (ap (λ l. l ++ bits (bytes_high_first 2 v)) (bits_of-mod 8 (v / 2 ^ 16))
    ∙ ap (λ l. bits_of 8 (v / 2 ^ 16) ++ l) (ap (λ l. l ++ bits (bytes_high_first 1 v)) (bits_of-mod 8 (v / 2 ^ 8))
    ∙ ap (λ l. bits_of 8 (v / 2 ^ 8) ++ l) (append-nil (bits_of 8 (v % 2 ^ 8)) ∙ bits_of-mod 8 v)
    ∙ sym (bits_of-split 16 8 8 v refl)) ∙ sym (bits_of-split 24 8 16 v refl)) ∙ sym (bits_of-split 32 8 24 v refl)

-- from the lowest bit up
pub reverse-bits_of : (n v : ℕ) → reverse (bits_of (suc n) v) ≡ bit v 0 ∷ reverse (bits_of n (v / 2))
unfolding bits_of
reverse-bits_of n v =
    ap reverse (bits_of-cut (suc n) n 1 v (omega arith)) ∙ reverse-append (bits_of n (v / 2)) (bits_of 1 (v % 2))
    ∙ ap (λ x. (x == 1) ∷ reverse (bits_of n (v / 2))) (low_twice v)
  where
    low_twice : (v : ℕ) → bit_at (v % 2) 0 ≡ bit_at v 0
    low_twice v = omega arith

-- a set bit as a number
place_value : (x p : ℕ) → x < 2 → (if x == 1 then p else 0) ≡ x * p
place_value zero p h = omega arith
place_value (suc zero) p h = omega arith
place_value (suc (suc x)) p h = absurd (omega arith)

number-bits_of-mod : (n v : ℕ) → number (bits_of n v) ≡ v % 2 ^ n
unfolding bits_of number
number-bits_of-mod zero v = omega arith
number-bits_of-mod (suc n) v =
    let one_more : suc n ≡ 1 + n = omega arith in
    let front : (if bit v n then 2 ^ length (bits_of n v) else 0) ≡ bit_at v n * 2 ^ n =
    ap (λ k. if bit v n then 2 ^ k else 0) (length-bits_of n v) ∙ place_value (bit_at v n) (2 ^ n) (bit_at-lt v n) in
    ap (λ x. x + number (bits_of n v)) front ∙ ap (λ x. bit_at v n * 2 ^ n + x) (number-bits_of-mod n v)
    ∙ sym (mod-pow-add v 1 n) ∙ ap (λ k. v % 2 ^ k) (sym one_more)

-- a number is read back from its bits
pub number-bits_of : (n v : ℕ) → v < 2 ^ n → number (bits_of n v) ≡ v
number-bits_of n v h = number-bits_of-mod n v ∙ mod-eq_of_lt h

pub number-lt : (bs : List Bool) → number bs < 2 ^ length bs
unfolding number
number-lt [] = omega arith
number-lt (true ∷ bs) = omega (arith, number-lt bs, pow-suc 2 (length bs))
number-lt (false ∷ bs) = omega (arith, number-lt bs, pow-suc 2 (length bs))

-- clear bits are zero
pub bits_of-zero : (n : ℕ) → bits_of n 0 ≡ replicate n false
unfolding bits_of
bits_of-zero zero = refl
bits_of-zero (suc n) = ap (λ x. (x == 1) ∷ bits_of n 0) (bit_at_above 0 n n (pow_pos n) (omega arith)) ∙ ap (λ bs. false ∷ bs) (bits_of-zero n)

pub number-clear : (n : ℕ) → number (replicate n false) ≡ 0
unfolding number
number-clear zero = refl
number-clear (suc n) = omega (arith, number-clear n)

-- bits are read back from their number
pub bits_of-number : (bs : List Bool) → bits_of (length bs) (number bs) ≡ bs
unfolding bits_of number
bits_of-number [] = refl
bits_of-number (true ∷ bs) =
    let whole : 2 ^ length bs + number bs ≡ 1 * 2 ^ length bs + number bs = omega arith in
    ap (λ v. bits_of (suc (length bs)) v) whole ∙ bits_of-cat (suc (length bs)) 1 (length bs) 1 (number bs) (omega arith) (number-lt bs)
    ∙ ap (λ l. true ∷ l) (bits_of-number bs)
bits_of-number (false ∷ bs) =
    let whole : 0 + number bs ≡ 0 * 2 ^ length bs + number bs = omega arith in
    ap (λ v. bits_of (suc (length bs)) v) whole ∙ bits_of-cat (suc (length bs)) 1 (length bs) 0 (number bs) (omega arith) (number-lt bs)
    ∙ ap (λ l. false ∷ l) (bits_of-number bs)

-- `value << width | low`, where nothing is shifted out
pub shifted_in : (value count width low : ℕ) → value < 2 ^ count → count + width ≤ 16 → low < 2 ^ width → bit_or (value * 2 ^ width % 2 ^ 16) low ≡ value * 2 ^ width + low
shifted_in value count width low h room fits =
    ap (λ x. bit_or x low) (shl_whole value count width 16 h room) ∙ or_shifted value width low fits

pub shifted_in-lt : (value count width low : ℕ) → value < 2 ^ count → count + width ≤ 16 → low < 2 ^ width → bit_or (value * 2 ^ width % 2 ^ 16) low < 2 ^ (count + width)
shifted_in-lt value count width low h room fits =
    omega (arith, shifted_in value count width low h room fits, mul-add-lt value (2 ^ width) low (2 ^ count) h fits, pow-add 2 width count, ap (λ k. 2 ^ k) (add_comm width count))

-- the highest bits of a number are a small number
pub front-lt : (count width value : ℕ) → width ≤ count → value < 2 ^ count → value / 2 ^ (count - width) < 2 ^ width
front-lt count width value enough h =
    let whole : width + (count - width) ≡ count = omega arith in
    shr_below value width (count - width) (let P : ℕ → Type 0 = λ n. value < 2 ^ n in subst P (sym whole) h)

-- ---- lists of pieces of bits, f bits an item, with bits that wait
-- an item that waited is appended
pub moved : (f : ℕ → List Bool) (items : List ℕ) (x : ℕ) (waiting : List Bool) → flat_map f (items ++ x ∷ []) ++ waiting ≡ flat_map f items ++ (f x ++ waiting)
moved f items x waiting =
    ap (λ l. l ++ waiting) (flat_map-append f items (x ∷ []) ∙ ap (λ l. flat_map f items ++ l) (append-nil (f x)))
    ∙ append_assoc (flat_map f items) (f x) waiting

-- one more item's bits wait
pub waits : (f : ℕ → List Bool) (front waiting start : List Bool) (items : List ℕ) (i x : ℕ) → i < length items → x ≡ get_or items i 0
    → front ++ waiting ≡ start ++ flat_map f (take i items) → front ++ (waiting ++ f x) ≡ start ++ flat_map f (take (i + 1) items)
waits f front waiting start items i x h e before =
    sym (append_assoc front waiting (f x)) ∙ ap (λ l. l ++ f x) before ∙ append_assoc start (flat_map f (take i items)) (f x)
    ∙ ap (λ l. start ++ l) (
    sym (flat_map-append f (take i items) (x ∷ []) ∙ ap (λ l. flat_map f (take i items) ++ l) (append-nil (f x)))
    ∙ ap (λ y. flat_map f (take i items ++ y ∷ [])) e ∙ ap (flat_map f) (sym (take_more items i 0 h))
    )
