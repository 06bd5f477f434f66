-- The two parts that a rotation joins have no bit in common: std joins them by `|`, the definition by `+`.
use Rattle.std.proofs.Common.{◌≡◌, ℕ, zero, suc, ◌+◌, ◌-◌, ◌*◌, ◌/◌, ◌%◌, ◌^◌, ◌<◌, ◌∙◌, sym, ap, subst, bit_or, arith}
use Rattle.std.proofs.Math.Nat.{mod-eq_of_lt, mod_self, mod-lt, div-eq_of_lt, div-one, lt_of_le_of_lt}
use Rattle.std.proofs.lemmas.Nat.{pow_pos, mod-pow-add, shl-shr, mod_low, shr_below, or_shifted, or_comm, or_lt, shr_le}
use Rattle.std.specs.Int.{Width, rotate_left, rotate_right}
use Rattle.std.specs.Int.Bits.{or_self}
use mir.Val.{bits}
use Rattle.wm_numeric.specs.Integers.{irotl, irotr}

multiple : (i k : ℕ) → (i * 2 ^ k) % 2 ^ k ≡ 0
multiple i k =
    let e : i * 2 ^ k ≡ i * 2 ^ k + 0 = omega arith in
    ap (λ x. x % 2 ^ k) e ∙ mod_low i k 0 (pow_pos k)

-- the lowest `down` bits of i, moved up
raised : (up down i : ℕ) → (i * 2 ^ up) % 2 ^ (down + up) ≡ (i % 2 ^ down) * 2 ^ up
raised up down i =
    mod-pow-add (i * 2 ^ up) down up
    ∙ (ap (λ x. (x % 2 ^ down) * 2 ^ up + (i * 2 ^ up) % 2 ^ up) (shl-shr i up) ∙ omega (arith, multiple i up))

joined : (up down i : ℕ) → i < 2 ^ (up + down) → bit_or ((i * 2 ^ up) % 2 ^ (down + up)) (i / 2 ^ down) ≡ (i * 2 ^ up) % 2 ^ (down + up) + i / 2 ^ down
joined up down i h =
    ap (λ x. bit_or x (i / 2 ^ down)) (raised up down i)
    ∙ (or_shifted (i % 2 ^ down) up (i / 2 ^ down) (shr_below i up down h) ∙ ap (λ x. x + i / 2 ^ down) (sym (raised up down i)))

-- up and down together are the width
apart : (n up down i : ℕ) → down + up ≡ n → i < 2 ^ n → bit_or ((i * 2 ^ up) % 2 ^ n) (i / 2 ^ down) ≡ (i * 2 ^ up) % 2 ^ n + i / 2 ^ down
apart n up down i e h =
    let turned : n ≡ up + down = omega arith in
    subst (λ x. bit_or ((i * 2 ^ up) % 2 ^ x) (i / 2 ^ down) ≡ (i * 2 ^ up) % 2 ^ x + i / 2 ^ down) e
    (joined up down i (subst (λ x. i < 2 ^ x) turned h))

pub joined_below : (n up down i : ℕ) → down + up ≡ n → i < 2 ^ n → (i * 2 ^ up) % 2 ^ n + i / 2 ^ down < 2 ^ n
joined_below n up down i e h =
    subst (λ x. x < 2 ^ n) (apart n up down i e h)
    (or_lt n ((i * 2 ^ up) % 2 ^ n) (i / 2 ^ down) (mod-lt (i * 2 ^ up) (pow_pos n)) (lt_of_le_of_lt (shr_le i down) h))

-- a rotation by 0 keeps all bits
same : (n i : ℕ) → i < 2 ^ n → (i * 2 ^ 0) % 2 ^ n ≡ i
same n i h = let e : i * 2 ^ 0 ≡ i = omega arith in ap (λ x. x % 2 ^ n) e ∙ mod-eq_of_lt h

none : (n : ℕ) → (n - 0) % n ≡ 0
none n = let e : n - 0 ≡ n = omega arith in ap (λ x. x % n) e ∙ mod_self n

-- a rotation by less than the width
left : (n k i : ℕ) → k < n → i < 2 ^ n → bit_or ((i * 2 ^ k) % 2 ^ n) (i / 2 ^ ((n - k) % n)) ≡ (i * 2 ^ k) % 2 ^ n + i / 2 ^ (n - k)
left n zero i below h =
    let e : n - 0 ≡ n = omega arith in
    let down : i / 2 ^ ((n - 0) % n) ≡ i = ap (λ x. i / 2 ^ x) (none n) ∙ div-one i in
    let lost : i / 2 ^ (n - 0) ≡ 0 = ap (λ x. i / 2 ^ x) e ∙ div-eq_of_lt h in
    ap (λ x. bit_or x (i / 2 ^ ((n - 0) % n))) (same n i h) ∙ (ap (bit_or i) down ∙ (or_self i ∙ omega (arith, lost, same n i h)))
left n (suc k) i below h =
    let e : (n - suc k) % n ≡ n - suc k = mod-eq_of_lt (omega arith) in
    ap (λ x. bit_or ((i * 2 ^ suc k) % 2 ^ n) (i / 2 ^ x)) e ∙ apart n (suc k) (n - suc k) i (omega arith) h

right : (n k i : ℕ) → k < n → i < 2 ^ n → bit_or (i / 2 ^ k) ((i * 2 ^ ((n - k) % n)) % 2 ^ n) ≡ i / 2 ^ k + (i * 2 ^ (n - k)) % 2 ^ n
right n zero i below h =
    let e : n - 0 ≡ n = omega arith in
    let up : (i * 2 ^ ((n - 0) % n)) % 2 ^ n ≡ i = ap (λ x. (i * 2 ^ x) % 2 ^ n) (none n) ∙ same n i h in
    let lost : (i * 2 ^ (n - 0)) % 2 ^ n ≡ 0 = ap (λ x. (i * 2 ^ x) % 2 ^ n) e ∙ multiple i n in
    ap (λ x. bit_or x ((i * 2 ^ ((n - 0) % n)) % 2 ^ n)) (div-one i) ∙ (ap (bit_or i) up ∙ (or_self i ∙ omega (arith, lost, div-one i)))
right n (suc k) i below h =
    let e : (n - suc k) % n ≡ n - suc k = mod-eq_of_lt (omega arith) in
    let whole : suc k + (n - suc k) ≡ n = omega arith in
    or_comm (i / 2 ^ suc k) _
    ∙ (ap (λ x. bit_or ((i * 2 ^ x) % 2 ^ n) (i / 2 ^ suc k)) e ∙ (apart n (n - suc k) (suc k) i whole h ∙ omega arith))

-- the count is cut to the width before std cuts it
pub rotate_left_is : (w : Width) (i j : ℕ) → 0 < bits w → i < 2 ^ bits w → rotate_left w i (j % bits w) ≡ irotl (bits w) i j
rotate_left_is w i j some h =
    let k : j % bits w < bits w = mod-lt j some in
    let e : j % bits w % bits w ≡ j % bits w = mod-eq_of_lt k in
    rw e (left (bits w) (j % bits w) i k h)

pub rotate_right_is : (w : Width) (i j : ℕ) → 0 < bits w → i < 2 ^ bits w → rotate_right w i (j % bits w) ≡ irotr (bits w) i j
rotate_right_is w i j some h =
    let k : j % bits w < bits w = mod-lt j some in
    let e : j % bits w % bits w ≡ j % bits w = mod-eq_of_lt k in
    rw e (right (bits w) (j % bits w) i k h)
