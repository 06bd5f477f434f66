-- The shortest spelling spells its number, and nothing shorter does.
use Rattle.std.proofs.Common.{◌≡◌, ℕ, suc, zero, ◌+◌, ◌*◌, ◌/◌, ◌%◌, ◌^◌, ◌<◌, ◌≤◌, List, [], ◌∷◌, ◌++◌, Bool, true, false, length, refl, sym, ◌∙◌, ap, subst, arith, inl, inr, append_assoc, take}
use Rattle.std.specs.Prelude.{nat_le, ℤ, pos, negsuc, FitsSigned}
use Rattle.std.specs.Int.{complement_if}
use Rattle.std.proofs.lemmas.Bool.{lt-ltb, le-ltb, le-leb, lt-leb, cases_lt}
use Rattle.std.proofs.lemmas.List.{take-append-le, length-take}
use Rattle.std.proofs.Math.Nat.{pow-suc, mul_assoc}
use Rattle.std.specs.Int.Signed.{mag}
use Rattle.ic_leb.specs.declared.width.Width.{Width}
use Rattle.ic_leb.specs.Width.{bits, int_width}
use Rattle.ic_leb.specs.Value.{is_negative, signed_value}
use Rattle.ic_leb.specs.Spells.{IsOneNumber, SpellsUnsigned, SpellsSigned}
use Rattle.ic_leb.specs.Magnitude.{low_bits, magnitude_of}
use Rattle.ic_leb.specs.Spelling.{seven_bits_each, unsigned_spelling, signed_spelling}
use Rattle.ic_leb.proofs.Values.{below_128, unsigned_magnitude, signed_magnitude, negative_one, negative_more}
use Rattle.ic_leb.proofs.Magnitudes.{magnitude_below, signed_below}
use Rattle.ic_leb.proofs.Widths.{magnitude_fits, unsigned_room, signed_room}
use Rattle.ic_leb.proofs.Sizes.{some_bytes}

pub last_seven : (end : ℕ) (negative : Bool) (most n : ℕ) → n < end → seven_bits_each end negative (suc most) n ≡ low_bits negative n ∷ []
unfolding seven_bits_each
last_seven end negative most n h = rw (seven_bits_each, lt-ltb n end h) refl

pub first_seven : (end : ℕ) (negative : Bool) (most n : ℕ) → end ≤ n → seven_bits_each end negative (suc most) n ≡ (128 + low_bits negative n) ∷ seven_bits_each end negative most (n / 128)
unfolding seven_bits_each
first_seven end negative most n h = rw (seven_bits_each, le-ltb n end h) refl

-- more bytes than are needed change nothing
pub same_seven : (end : ℕ) (negative : Bool) (most more n : ℕ) → 0 < end → n < most → n < more → seven_bits_each end negative most n ≡ seven_bits_each end negative more n
same_seven end negative zero more n some h k = absurd (omega arith)
same_seven end negative most zero n some h k = absurd (omega arith)
same_seven end negative (suc most) (suc more) n some h k =
    elim (cases_lt n end) [
      | inl ends ↦ last_seven end negative most n ends ∙ sym (last_seven end negative more n ends)
      | inr long ↦ first_seven end negative most n long
          ∙ ap (λ xs. (128 + low_bits negative n) ∷ xs) (same_seven end negative most more (n / 128) some (omega arith) (omega arith))
          ∙ sym (first_seven end negative more n long)
    ]

-- a byte, and then what is left of the number
pub next_seven : (end : ℕ) (negative : Bool) (left : ℕ) → 0 < end → end ≤ left → seven_bits_each end negative (suc left) left ≡ (128 + low_bits negative left) ∷ seven_bits_each end negative (suc (left / 128)) (left / 128)
next_seven end negative left some long =
    first_seven end negative left left long
    ∙ ap (λ xs. (128 + low_bits negative left) ∷ xs) (same_seven end negative left (suc (left / 128)) (left / 128) some (omega arith) (omega arith))

pub pushed_seven : (end : ℕ) (negative : Bool) (left : ℕ) (items : List ℕ) → 0 < end → end ≤ left → (items ++ (128 + low_bits negative left) ∷ []) ++ seven_bits_each end negative (suc (left / 128)) (left / 128) ≡ items ++ seven_bits_each end negative (suc left) left
pushed_seven end negative left items some long =
    append_assoc items ((128 + low_bits negative left) ∷ []) (seven_bits_each end negative (suc (left / 128)) (left / 128))
    ∙ ap (λ xs. items ++ xs) (sym (next_seven end negative left some long))

-- By the bytes: what holds of a last one, and of one more in front, holds of all.
seven_by : (end : ℕ) (negative : Bool) → 0 < end → (P : ℕ → List ℕ → Type 0) → ((n : ℕ) → n < end → P n (low_bits negative n ∷ [])) → ((n : ℕ) (bytes : List ℕ) → end ≤ n → P (n / 128) bytes → P n ((128 + low_bits negative n) ∷ bytes)) → (most n : ℕ) → n < most → P n (seven_bits_each end negative most n)
seven_by end negative some P last more zero n h = absurd (omega arith)
seven_by end negative some P last more (suc most) n h =
    elim (cases_lt n end) [
      | inl ends ↦ subst (P n) (sym (last_seven end negative most n ends)) (last n ends)
      | inr long ↦ subst (P n) (sym (first_seven end negative most n long)) (more n _ long (seven_by end negative some P last more most (n / 128) (omega arith)))
    ]

-- all but the last byte have bit 7
pub seven_one : (end : ℕ) (negative : Bool) (most n : ℕ) → 0 < end → n < most → IsOneNumber (seven_bits_each end negative most n)
seven_one end negative most n some = seven_by end negative some (λ n bytes. IsOneNumber bytes)
    (λ n h. record { front = []; last = low_bits negative n; whole = refl; continued = tt; ended = below_128 negative n })
    (λ n bytes h one. record {
      front = (128 + low_bits negative n) ∷ one.front;
      last = one.last;
      whole = ap (λ xs. (128 + low_bits negative n) ∷ xs) one.whole;
      continued = (omega arith, one.continued);
      ended = one.ended;
    })
    most n

low_of_last : (negative : Bool) (n : ℕ) → n < 128 → low_bits negative (low_bits negative n) ≡ n
low_of_last true n h = omega arith
low_of_last false n h = omega arith

low_of_more : (negative : Bool) (n : ℕ) → low_bits negative (128 + low_bits negative n) ≡ n % 128
low_of_more true n = omega arith
low_of_more false n = omega arith

-- the bytes are those of n
pub seven_means : (end : ℕ) (negative : Bool) (most n : ℕ) → 0 < end → end ≤ 128 → n < most → magnitude_of negative (seven_bits_each end negative most n) ≡ n
unfolding magnitude_of
seven_means end negative most n some short = seven_by end negative some (λ n bytes. magnitude_of negative bytes ≡ n)
    (λ n h. omega (arith, low_of_last negative n (omega arith)))
    (λ n bytes h e. omega (arith, low_of_more negative n))
    most n

-- the last byte of six bits has the sign
pub seven_sign : (negative : Bool) (most n : ℕ) → n < most → is_negative (seven_bits_each 64 negative most n) ≡ negative
seven_sign negative most n h = (seven_by 64 negative (omega arith) (λ n bytes. (is_negative bytes ≡ negative) × (0 < length bytes))
    (λ n h. (negative_one (low_bits negative n) ∙ sign_of negative n h, omega arith))
    (λ n bytes h said. (behind (128 + low_bits negative n) bytes said.1 ∙ said.0, omega arith))
    most n h).0
  where
    sign_of : (negative : Bool) (n : ℕ) → n < 64 → nat_le 64 (low_bits negative n % 128) ≡ negative
    sign_of true n h = le-leb 64 (low_bits true n % 128) (omega arith)
    sign_of false n h = lt-leb 64 (low_bits false n % 128) (omega arith)

    behind : (b : ℕ) (bytes : List ℕ) → 0 < length bytes → is_negative (b ∷ bytes) ≡ is_negative bytes
    behind b [] h = absurd (omega arith)
    behind b (c ∷ bytes) h = negative_more b c bytes

-- as many bytes as the number has groups of seven bits
pub seven_length : (end : ℕ) (negative : Bool) (most n k : ℕ) → n < most → n < end * 128 ^ k → length (seven_bits_each end negative most n) ≤ suc k
seven_length end negative zero n k h small = absurd (omega arith)
seven_length end negative (suc most) n zero h small = rw (last_seven end negative most n (omega arith)) (omega arith)
seven_length end negative (suc most) n (suc k) h small =
    let power : end * 128 ^ suc k ≡ end * 128 ^ k * 128 = ap (λ p. end * p) (pow-suc 128 k) ∙ sym (mul_assoc end (128 ^ k) 128) in
    elim (cases_lt n end) [
      | inl ends ↦ rw (last_seven end negative most n ends) (omega arith)
      | inr long ↦ rw (first_seven end negative most n long) (omega (arith, seven_length end negative most (n / 128) k (shorter end n most small long h) (omega arith)))
    ]
  where
    shorter : (end n most : ℕ) → n < end * 128 ^ suc k → end ≤ n → n < suc most → n / 128 < most
    shorter zero n most small long h = absurd (omega arith)
    shorter (suc end) n most small long h = omega arith

pub unsigned_spelled : (width : Width) (n : ℕ) → n < 2 ^ bits width → SpellsUnsigned width n (unsigned_spelling n)
unfolding unsigned_spelling
unsigned_spelled width n h =
    let room = unsigned_room width in
    let size : length (seven_bits_each 128 false (suc n) n) ≤ suc room.0 = seven_length 128 false (suc n) n room.0 (omega arith) (omega (arith, room.2)) in
    record {
      one = seven_one 128 false (suc n) n (omega arith) (omega arith);
      size = omega (arith, size, room.1);
      means = sym (unsigned_magnitude (unsigned_spelling n) ∙ seven_means 128 false (suc n) n (omega arith) (omega arith) (omega arith));
      fits = h;
    }

-- the spelling of n, or of -(n + 1)
signed_seven : (negative : Bool) (n : ℕ) → signed_spelling (complement_if negative n) ≡ seven_bits_each 64 negative (suc n) n
unfolding signed_spelling
signed_seven true n = refl
signed_seven false n = refl

seven_spelled : (width : Width) (negative : Bool) (n : ℕ) → mag (complement_if negative n) ≡ n → FitsSigned (int_width width) (complement_if negative n) → SpellsSigned width (complement_if negative n) (signed_spelling (complement_if negative n))
seven_spelled width negative n e h =
    let bytes = seven_bits_each 64 negative (suc n) n in
    let room = signed_room width in
    let size : length bytes ≤ suc room.0 = seven_length 64 negative (suc n) n room.0 (omega arith) (omega (arith, room.2, e, magnitude_fits width (complement_if negative n) h)) in
    let sign : is_negative bytes ≡ negative = seven_sign negative (suc n) n (omega arith) in
    let means : signed_value bytes ≡ complement_if negative n =
    signed_magnitude bytes ∙ ap (λ s. complement_if s (magnitude_of s bytes)) sign ∙ ap (complement_if negative) (seven_means 64 negative (suc n) n (omega arith) (omega arith) (omega arith)) in
    let spelled : SpellsSigned width (complement_if negative n) bytes = record {
      one = seven_one 64 negative (suc n) n (omega arith) (omega arith);
      size = omega (arith, size, room.1);
      means = sym means;
      fits = h;
    } in
    subst (SpellsSigned width (complement_if negative n)) (sym (signed_seven negative n)) spelled

pub signed_spelled : (width : Width) (z : ℤ) → FitsSigned (int_width width) z → SpellsSigned width z (signed_spelling z)
signed_spelled width (pos n) h = seven_spelled width false n refl h
signed_spelled width (negsuc n) h = seven_spelled width true n refl h

pub unsigned_shortest : (width : Width) (n : ℕ) (bytes : List ℕ) → SpellsUnsigned width n bytes → length (unsigned_spelling n) ≤ length bytes
unfolding unsigned_spelling
unsigned_shortest width n [] spells = absurd (omega (arith, some_bytes [] spells.one))
unsigned_shortest width n (b ∷ bytes) spells =
    let below : n < 128 * 128 ^ length bytes = omega (arith, spells.means ∙ unsigned_magnitude (b ∷ bytes), magnitude_below false (b ∷ bytes), pow-suc 128 (length bytes)) in
    omega (arith, seven_length 128 false (suc n) n (length bytes) (omega arith) below)

pub signed_shortest : (width : Width) (z : ℤ) (bytes : List ℕ) → SpellsSigned width z bytes → length (signed_spelling z) ≤ length bytes
signed_shortest width z [] spells = absurd (omega (arith, some_bytes [] spells.one))
signed_shortest width z (b ∷ bytes) spells =
    let negative = is_negative (b ∷ bytes) in
    let n = magnitude_of negative (b ∷ bytes) in
    let same : signed_spelling z ≡ seven_bits_each 64 negative (suc n) n =
    ap signed_spelling (spells.means ∙ signed_magnitude (b ∷ bytes)) ∙ signed_seven negative n in
    omega (arith, ap length same, seven_length 64 negative (suc n) n (length bytes) (omega arith) (signed_below negative b bytes refl))

-- what is pushed leaves the front
pub kept_front : (old items : List ℕ) (byte : ℕ) → take (length old) items ≡ old → take (length old) (items ++ byte ∷ []) ≡ old
kept_front old items byte e = take-append-le (length old) items (byte ∷ []) (omega (arith, ap length e, length-take (length old) items)) ∙ e

-- a number of 128 bits takes few bytes
pub few_sevens : (end : ℕ) (negative : Bool) (n : ℕ) → 0 < end → n < 2 ^ 128 → length (seven_bits_each end negative (suc n) n) ≤ 20
few_sevens end negative n some h = seven_length end negative (suc n) n 19 (omega arith) (omega arith)
