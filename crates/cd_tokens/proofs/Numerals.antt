-- Numbers are read exactly.
use Rattle.std.proofs.Common.{◌≡◌, ℕ, ◌+◌, ◌*◌, ◌^◌, ◌<◌, ◌≤◌, Bool, true, false, cond, List, [], ◌∷◌, length, drop, get_or, Option, Some, None, refl, sym, ap, subst, ◌∙◌, inl, inr, arith, add-one}
use Rattle.std.specs.Prelude.{◌==◌, ◌&&◌, ℤ, pos, neg_ℤ, nat_lt, option_map}
use Rattle.std.specs.Int.Digits.{number_from_digits, number_from_digits_after}
use Rattle.std.proofs.Math.ListN.{drop_of_length-le}
use Rattle.std.proofs.Math.Seq.{drop-cons}
use Rattle.std.proofs.lemmas.Int.Digits.{number_after_ge}
use Rattle.ic_base.specs.Reader.{◌>>=◌}
use Rattle.ic_base.proofs.Steps.{bind_some, some_is}
use Rattle.cd_tokens.specs.Numeral.{digit_of, AreDigits, IsNumeral, IsNatural, IsInteger}
use Rattle.cd_tokens.specs.ReadNumeral.{digits_from, numeral_of, natural_of, integer_of, below}
use Rattle.cd_tokens.specs.GoOn.{go_on}
use Rattle.cd_tokens.proofs.Fronts.{both, true_or_false, is_equal}

-- ---- digits are read exactly

both_ways : (d : ℕ) (found : Option ℕ) → found ≡ None → found ≡ Some d → ⊥
both_ways d found e f = cc

-- a base up to sixteen: _ , x and the signs are no digits
pub data IsBase (base : ℕ) : Type 0 where
  ten : base ≡ 10 → IsBase base
  sixteen : base ≡ 16 → IsBase base

no_underscore : (base : ℕ) → IsBase base → digit_of base 95 ≡ None
no_underscore base (ten e) = rw e refl
no_underscore base (sixteen e) = rw e refl

no_digit : (base : ℕ) → IsBase base → (b d : ℕ) → digit_of base b ≡ Some d → (b == 95) ≡ false
no_digit base is b d e = elim (true_or_false (b == 95)) [
  | inl same ↦ let at : b ≡ 95 = is_equal b 95 same in let f : digit_of base 95 ≡ Some d = subst (λ k. digit_of base k ≡ Some d) at e in absurd (both_ways d (digit_of base 95) (no_underscore base is) f)
  | inr other ↦ other
]

pub digits_again : (base : ℕ) → IsBase base → (ds : List ℕ) (bytes : List ℕ) (needs : Bool) (acc : ℕ) → AreDigits base ds bytes → digits_from base needs acc bytes ≡ Some (number_from_digits_after base acc ds)
unfolding digits_from
digits_again base is [] bytes needs acc are = absurd are
digits_again base is (d ∷ []) bytes needs acc are = rw (are.1, no_digit base is are.0 d are.2, are.2) refl
digits_again base is (d ∷ e ∷ ds) bytes needs acc are =
    let i = digits_again base is (e ∷ ds) are.1 false (acc * base + d) are.4 in
    let j = digits_again base is (e ∷ ds) are.1 true (acc * base + d) are.4 in
    elim are.3 [
      | inl plain ↦ rw (plain, no_digit base is are.0 d are.2, are.2) i
      | inr under ↦ rw (under, no_digit base is are.0 d are.2, are.2) j
    ]

-- the digits that were read
data Found (base : ℕ) (needs : Bool) (ds : List ℕ) (bytes : List ℕ) : Type 0 where
  nothing : needs ≡ false → bytes ≡ [] → ds ≡ [] → Found base needs ds bytes
  digits : AreDigits base ds bytes → Found base needs ds bytes
  behind : (rest : List ℕ) → needs ≡ false → bytes ≡ 95 ∷ rest → AreDigits base ds rest → Found base needs ds bytes

one_more : (base b d : ℕ) (ds bytes : List ℕ) → digit_of base b ≡ Some d → Found base false ds bytes → AreDigits base (d ∷ ds) (b ∷ bytes)
one_more base b d [] bytes e (nothing n at is) = (b, ap (λ (xs : List ℕ). b ∷ xs) at, e)
one_more base b d [] bytes e (digits are) = absurd are
one_more base b d [] bytes e (behind rest n at are) = absurd are
one_more base b d (x ∷ ds) bytes e (nothing n at is) = absurd cc
one_more base b d (x ∷ ds) bytes e (digits are) = (b, bytes, e, inl refl, are)
one_more base b d (x ∷ ds) bytes e (behind rest n at are) = (b, rest, e, inr (ap (λ (xs : List ℕ). b ∷ xs) at), are)

needed : (base : ℕ) (ds bytes : List ℕ) → Found base true ds bytes → AreDigits base ds bytes
needed base ds bytes (nothing n at is) = absurd cc
needed base ds bytes (digits are) = are
needed base ds bytes (behind rest n at are) = absurd cc

under_take : (base b : ℕ) (bytes : List ℕ) (needs : Bool) (acc n : ℕ) → (b == 95) ≡ true → cond needs None (digits_from base true acc bytes) ≡ Some n
    → (digits_from base true acc bytes ≡ Some n → (ds : List ℕ) × (n ≡ number_from_digits_after base acc ds) × Found base true ds bytes) → (ds : List ℕ) × (n ≡ number_from_digits_after base acc ds) × Found base needs ds (b ∷ bytes)
under_take base b bytes true acc n under e law = absurd cc
under_take base b bytes false acc n under e law =
    let i = law e in
    let at : b ≡ 95 = is_equal b 95 under in
    (i.0, i.1, behind bytes refl (ap (λ (k : ℕ). k ∷ bytes) at) (needed base i.0 bytes i.2))

digits_found : (base : ℕ) (bytes : List ℕ) (needs : Bool) (acc n : ℕ) → digits_from base needs acc bytes ≡ Some n → (ds : List ℕ) × (n ≡ number_from_digits_after base acc ds) × Found base needs ds bytes
unfolding digits_from
digits_found base [] true acc n e = absurd cc
digits_found base [] false acc n e = ([], sym (some_is {A = ℕ} acc n e), nothing refl refl refl)
digits_found base (b ∷ bytes) needs acc n e = elim (true_or_false (b == 95)) [
  | inl under ↦ under_take base b bytes needs acc n under (rw under at e) (digits_found base bytes true acc n)
  | inr other ↦
      let f : (digit_of base b >>= λ d. digits_from base false (acc * base + d) bytes) ≡ Some n = rw other at e in
      let a = bind_some (digit_of base b) (λ d. digits_from base false (acc * base + d) bytes) n f in
      let i = digits_found base bytes false (acc * base + a.0) n a.2 in
      (a.0 ∷ i.0, i.1, digits (one_more base b a.0 i.0 bytes a.1 i.2))
]

digits_take : (base : ℕ) (bytes : List ℕ) (n : ℕ) → digits_from base true 0 bytes ≡ Some n → (ds : List ℕ) × AreDigits base ds bytes × (n ≡ number_from_digits base ds)
digits_take base bytes n e = let f = digits_found base bytes true 0 n e in (f.0, needed base f.0 bytes f.2, f.1)

-- ---- the loop of the code

-- the number does not fall
grows : (base : ℕ) (bytes : List ℕ) (needs : Bool) (acc n : ℕ) → 1 ≤ base → digits_from base needs acc bytes ≡ Some n → acc ≤ n
grows base bytes needs acc n least e = let f = digits_found base bytes needs acc n e in rw f.1 (number_after_ge base acc f.0 least)

pub not_a_digit : (limit base : ℕ) (needs : Bool) (acc b : ℕ) → (b ≡ 95 → ⊥) → None ≡ digit_of base b → (bytes : List ℕ) → below limit (digits_from base needs acc (b ∷ bytes)) ≡ None
unfolding digits_from
not_a_digit limit base needs acc b other none bytes = let e : (b == 95) ≡ false = grind (arith, other) in rw (e, sym none) refl

over : (limit acc n : ℕ) → below limit (Some acc) ≡ None → acc ≤ n → below limit (Some n) ≡ None
over limit acc n e le = elim (true_or_false (nat_lt n limit)) [
  | inl small ↦ let h : nat_lt acc limit ≡ true = grind (arith, small, le) in let f : Some acc ≡ None = rw h at e in absurd cc
  | inr large ↦ rw large refl
]

too_large : (limit base : ℕ) (needs : Bool) (acc : ℕ) (bytes : List ℕ) (found : Option ℕ) → 1 ≤ base → digits_from base needs acc bytes ≡ found → below limit (Some acc) ≡ None → below limit found ≡ None
too_large limit base needs acc bytes None least e large = refl
too_large limit base needs acc bytes (Some n) least e large = over limit acc n large (grows base bytes needs acc n least e)

-- a digit is read
pub one_digit : (base : ℕ) (needs : Bool) (acc b x : ℕ) (number : Option ℕ) → 2 ≤ base → (b ≡ 95 → ⊥) → Some x ≡ digit_of base b → number ≡ below (2 ^ 128) (Some (acc * base + x)) → (bytes : List ℕ)
    → below (2 ^ 128) (digits_from base needs acc (b ∷ bytes)) ≡ go_on base (option_map (λ n. record { number = n; needs_digit = false }) number) bytes
unfolding digits_from
one_digit base needs acc b x number least other digit is bytes =
    let e : (b == 95) ≡ false = grind (arith, other) in
    elim (true_or_false (nat_lt (acc * base + x) (2 ^ 128))) [
      | inl small ↦ let n : number ≡ Some (acc * base + x) = is ∙ rw small refl in rw (e, sym digit, n) refl
      | inr large ↦
          let none : below (2 ^ 128) (Some (acc * base + x)) ≡ None = rw large refl in
          let n : number ≡ None = is ∙ none in
          rw (e, sym digit, n) (too_large (2 ^ 128) base false (acc * base + x) bytes _ (omega (arith, least)) refl none)
    ]

pub two_underscores : (limit base : ℕ) (acc b : ℕ) (needs : Bool) → b ≡ 95 → needs ≡ true → (bytes : List ℕ) → below limit (digits_from base needs acc (b ∷ bytes)) ≡ None
unfolding digits_from
two_underscores limit base acc b needs under needed_is bytes = rw (under, needed_is) refl

pub underscore : (limit base : ℕ) (acc b : ℕ) (needs : Bool) → b ≡ 95 → needs ≡ false → (bytes : List ℕ) → below limit (digits_from base needs acc (b ∷ bytes)) ≡ below limit (digits_from base true acc bytes)
unfolding digits_from
underscore limit base acc b needs under free bytes = rw (under, free) refl

pub at_place : (bytes : List ℕ) (i d : ℕ) → i < length bytes → drop i bytes ≡ get_or bytes i d ∷ drop (i + 1) bytes
at_place bytes i d inside = rw add-one (drop-cons bytes i d inside)

-- one byte of the list
pub at_byte : (limit base : ℕ) (needs : Bool) (acc i d : ℕ) (bytes : List ℕ) (after : List ℕ → Option ℕ) (total : Option ℕ) → i < length bytes → ((rest : List ℕ) → below limit (digits_from base needs acc (get_or bytes i d ∷ rest)) ≡ after rest)
    → below limit (digits_from base needs acc (drop i bytes)) ≡ total → after (drop (i + 1) bytes) ≡ total
at_byte limit base needs acc i d bytes after total inside step so_far =
    sym (step (drop (i + 1) bytes)) ∙ sym (ap (λ bs. below limit (digits_from base needs acc bs)) (at_place bytes i d inside)) ∙ so_far

pub at_last : (limit base : ℕ) (needs : Bool) (acc i : ℕ) (bytes : List ℕ) (total : Option ℕ) → acc < limit → length bytes ≤ i → below limit (digits_from base needs acc (drop i bytes)) ≡ total → total ≡ cond needs None (Some acc)
unfolding digits_from
at_last limit base true acc i bytes total small past so_far =
    let s : below limit (digits_from base true acc (drop i bytes)) ≡ None = rw (drop_of_length-le bytes past) refl in sym so_far ∙ s
at_last limit base false acc i bytes total small past so_far =
    let h : nat_lt acc limit ≡ true = grind (arith, small) in
    let s : below limit (digits_from base false acc (drop i bytes)) ≡ Some acc = rw (drop_of_length-le bytes past, h) refl in sym so_far ∙ s

-- ---- numbers are read exactly

no_x : (a b : ℕ) (bytes : List ℕ) (n : ℕ) → digits_from 10 true 0 (a ∷ b ∷ bytes) ≡ Some n → (a == 48 && b == 120) ≡ false
unfolding digits_from
no_x a b bytes n e = elim (true_or_false (a == 48 && b == 120)) [
  | inl holds ↦
      let h = both (a == 48) (b == 120) holds in
      let first : a ≡ 48 = is_equal a 48 h.0 in
      let second : b ≡ 120 = is_equal b 120 h.1 in
      let f : digits_from 10 true 0 (48 ∷ 120 ∷ bytes) ≡ Some n = subst (λ k. digits_from 10 true 0 (k ∷ 120 ∷ bytes) ≡ Some n) first (subst (λ k. digits_from 10 true 0 (a ∷ k ∷ bytes) ≡ Some n) second e) in
      absurd cc
  | inr fails ↦ fails
]

decimal_again : (bytes : List ℕ) (n : ℕ) → digits_from 10 true 0 bytes ≡ Some n → numeral_of bytes ≡ Some n
unfolding numeral_of digits_from
decimal_again [] n e = absurd cc
decimal_again (a ∷ []) n e = e
decimal_again (a ∷ b ∷ bytes) n e = rw (no_x a b bytes n e) e

pub numeral_again : (n : ℕ) (bytes : List ℕ) → IsNumeral n bytes → numeral_of bytes ≡ Some n
unfolding numeral_of
numeral_again n bytes is = elim is [
  | inl h ↦ decimal_again bytes n (rw h.2 (digits_again 10 (ten refl) h.0 bytes true 0 h.1))
  | inr h ↦ rw (h.2, h.4) (digits_again 16 (sixteen refl) h.1 h.0 true 0 h.3)
]

two_same : (a b : ℕ) (bytes : List ℕ) → a ≡ 48 → b ≡ 120 → a ∷ b ∷ bytes ≡ 48 ∷ 120 ∷ bytes
two_same a b bytes e f = rw (e, f) refl

pub numeral_takes : (n : ℕ) (bytes : List ℕ) → numeral_of bytes ≡ Some n → IsNumeral n bytes
unfolding numeral_of
numeral_takes n [] e = absurd cc
numeral_takes n (a ∷ []) e = inl (digits_take 10 (a ∷ []) n e)
numeral_takes n (a ∷ b ∷ bytes) e = elim (true_or_false (a == 48 && b == 120)) [
  | inl hex ↦
      let f : digits_from 16 true 0 bytes ≡ Some n = rw hex at e in
      let h = both (a == 48) (b == 120) hex in
      let t = digits_take 16 bytes n f in
      inr (bytes, t.0, two_same a b bytes (is_equal a 48 h.0) (is_equal b 120 h.1), t.1, t.2)
  | inr plain ↦ let f : digits_from 10 true 0 (a ∷ b ∷ bytes) ≡ Some n = rw plain at e in inl (digits_take 10 (a ∷ b ∷ bytes) n f)
]

-- a sign begins no numeral
no_sign : (k : ℕ) → digit_of 10 k ≡ None → (k == 95) ≡ false → (k == 48) ≡ false → (a : ℕ) (bytes : List ℕ) (n : ℕ) → numeral_of (a ∷ bytes) ≡ Some n → (a == k) ≡ false
unfolding numeral_of digits_from
no_sign k none under other a [] n e = elim (true_or_false (a == k)) [
  | inl same ↦
      let f : numeral_of (k ∷ []) ≡ Some n = subst (λ j. numeral_of (j ∷ []) ≡ Some n) (is_equal a k same) e in
      let g : None ≡ Some n = rw (under, none) at f in absurd cc
  | inr fails ↦ fails
]
no_sign k none under other a (b ∷ bytes) n e = elim (true_or_false (a == k)) [
  | inl same ↦
      let f : numeral_of (k ∷ b ∷ bytes) ≡ Some n = subst (λ j. numeral_of (j ∷ b ∷ bytes) ≡ Some n) (is_equal a k same) e in
      let g : None ≡ Some n = rw (other, under, none) at f in absurd cc
  | inr fails ↦ fails
]

behind_sign : (k a : ℕ) (bytes : List ℕ) → a ≡ k → a ∷ bytes ≡ k ∷ bytes
behind_sign k a bytes e = ap (λ (b : ℕ). b ∷ bytes) e

unsigned_again : (bytes : List ℕ) (n : ℕ) → numeral_of bytes ≡ Some n → natural_of bytes ≡ Some n
unfolding natural_of numeral_of
unsigned_again [] n e = absurd cc
unsigned_again (a ∷ bytes) n e = rw (no_sign 43 refl refl refl a bytes n e) e

pub natural_again : (n : ℕ) (bytes : List ℕ) → IsNatural n bytes → natural_of bytes ≡ Some n
unfolding natural_of
natural_again n bytes is = elim is [
  | inl h ↦ unsigned_again bytes n (numeral_again n bytes h)
  | inr h ↦ rw h.1 (numeral_again n h.0 h.2)
]

pub natural_takes : (n : ℕ) (bytes : List ℕ) → natural_of bytes ≡ Some n → IsNatural n bytes
unfolding natural_of
natural_takes n [] e = absurd cc
natural_takes n (a ∷ bytes) e = elim (true_or_false (a == 43)) [
  | inl plus ↦ let f : numeral_of bytes ≡ Some n = rw plus at e in inr (bytes, behind_sign 43 a bytes (is_equal a 43 plus), numeral_takes n bytes f)
  | inr other ↦ let f : numeral_of (a ∷ bytes) ≡ Some n = rw other at e in inl (numeral_takes n (a ∷ bytes) f)
]

-- a minus begins no natural number
no_minus : (a : ℕ) (bytes : List ℕ) (n : ℕ) → natural_of (a ∷ bytes) ≡ Some n → (a == 45) ≡ false
unfolding natural_of
no_minus a bytes n e = elim (true_or_false (a == 43)) [
  | inl plus ↦ rw (is_equal a 43 plus) refl
  | inr other ↦ let f : numeral_of (a ∷ bytes) ≡ Some n = rw other at e in no_sign 45 refl refl refl a bytes n f
]

positive_again : (bytes : List ℕ) (n : ℕ) → natural_of bytes ≡ Some n → integer_of bytes ≡ Some (pos n)
unfolding integer_of natural_of
positive_again [] n e = absurd cc
positive_again (a ∷ bytes) n e = rw (no_minus a bytes n e, e) refl

pub integer_again : (z : ℤ) (bytes : List ℕ) → IsInteger z bytes → integer_of bytes ≡ Some z
unfolding integer_of
integer_again z bytes is = elim is [
  | inl h ↦ rw h.1 (positive_again bytes h.0 (natural_again h.0 bytes h.2))
  | inr h ↦ rw (h.2, h.3, numeral_again h.0 h.1 h.4) refl
]

mapped : (f : ℕ → ℤ) (read : Option ℕ) (z : ℤ) → option_map f read ≡ Some z → (n : ℕ) × (read ≡ Some n) × (z ≡ f n)
mapped f None z e = absurd cc
mapped f (Some n) z e = (n, refl, sym (some_is {A = ℤ} (f n) z e))

pub integer_takes : (z : ℤ) (bytes : List ℕ) → integer_of bytes ≡ Some z → IsInteger z bytes
unfolding integer_of
integer_takes z [] e = absurd cc
integer_takes z (a ∷ bytes) e = elim (true_or_false (a == 45)) [
  | inl minus ↦
      let f : option_map (λ n. neg_ℤ (pos n)) (numeral_of bytes) ≡ Some z = rw minus at e in
      let m = mapped (λ n. neg_ℤ (pos n)) (numeral_of bytes) z f in
      inr (m.0, bytes, m.2, behind_sign 45 a bytes (is_equal a 45 minus), numeral_takes m.0 bytes m.1)
  | inr other ↦
      let f : option_map (λ n. pos n) (natural_of (a ∷ bytes)) ≡ Some z = rw other at e in
      let m = mapped (λ n. pos n) (natural_of (a ∷ bytes)) z f in
      inl (m.0, m.2, natural_takes m.0 (a ∷ bytes) m.1)
]
