-- Whether bytes are digits, of whatever size their number is.
use Rattle.std.proofs.Common.{◌≡◌, ℕ, ◌+◌, ◌-◌, ◌*◌, ◌<◌, ◌≤◌, Bool, true, false, cond, List, [], ◌∷◌, length, take, drop, get_or, Option, Some, None, refl, sym, ap, ◌∙◌, inl, inr, arith}
use Rattle.std.specs.Prelude.{◌==◌, not, is_some, option_map, pos, neg_ℤ}
use Rattle.std.proofs.Math.ListN.{drop_of_length-le}
use Rattle.std.proofs.lemmas.List.{take_all}
use Rattle.ic_base.specs.Reader.{◌>>=◌}
use Rattle.cd_tokens.specs.Bytes.{is_sign}
use Rattle.cd_tokens.specs.Numeral.{digit_of}
use Rattle.cd_tokens.specs.ReadNumeral.{digits_from, numeral_of, natural_of, integer_of}
use Rattle.cd_tokens.specs.GoOn.{ends_well}
use Rattle.cd_tokens.proofs.Fronts.{true_or_false}
use Rattle.cd_tokens.proofs.Numerals.{at_place}

-- the digits read so far do not tell whether the others are digits
needed_same : (base : ℕ) (needs : Bool) (n m : ℕ) (bytes : List ℕ) → is_some (digits_from base true n bytes) ≡ is_some (digits_from base true m bytes)
    → is_some (cond needs None (digits_from base true n bytes)) ≡ is_some (cond needs None (digits_from base true m bytes))
needed_same base true n m bytes same = refl
needed_same base false n m bytes same = same

digit_same : (base n m : ℕ) (found : Option ℕ) (bytes : List ℕ) → ((k l : ℕ) → is_some (digits_from base false k bytes) ≡ is_some (digits_from base false l bytes))
    → is_some (found >>= λ d. digits_from base false (n * base + d) bytes) ≡ is_some (found >>= λ d. digits_from base false (m * base + d) bytes)
digit_same base n m None bytes same = refl
digit_same base n m (Some d) bytes same = same (n * base + d) (m * base + d)

same : (base : ℕ) (bytes : List ℕ) (needs : Bool) (n m : ℕ) → is_some (digits_from base needs n bytes) ≡ is_some (digits_from base needs m bytes)
unfolding digits_from
same base [] true n m = refl
same base [] false n m = refl
same base (b ∷ bytes) needs n m = elim (true_or_false (b == 95)) [
  | inl under ↦ rw under (needed_same base needs n m bytes (same base bytes true n m))
  | inr other ↦ rw other (digit_same base n m (digit_of base b) bytes (λ k l. same base bytes false k l))
]

pub no_digit : (base : ℕ) (needs : Bool) (b : ℕ) → (b ≡ 95 → ⊥) → None ≡ digit_of base b → (n : ℕ) (bytes : List ℕ) → is_some (digits_from base needs n (b ∷ bytes)) ≡ false
unfolding digits_from
no_digit base needs b other none n bytes = let e : (b == 95) ≡ false = grind (arith, other) in rw (e, sym none) refl

pub one_digit : (base : ℕ) (needs : Bool) (b d : ℕ) → (b ≡ 95 → ⊥) → Some d ≡ digit_of base b → (n : ℕ) (bytes : List ℕ) → is_some (digits_from base needs n (b ∷ bytes)) ≡ is_some (digits_from base false 0 bytes)
unfolding digits_from
one_digit base needs b d other digit n bytes = let e : (b == 95) ≡ false = grind (arith, other) in rw (e, sym digit) (same base bytes false (n * base + d) 0)

pub two_underscores : (base : ℕ) (needs : Bool) (b : ℕ) → b ≡ 95 → needs ≡ true → (n : ℕ) (bytes : List ℕ) → is_some (digits_from base needs n (b ∷ bytes)) ≡ false
unfolding digits_from
two_underscores base needs b under needed n bytes = rw (under, needed) refl

pub underscore : (base : ℕ) (needs : Bool) (b : ℕ) → b ≡ 95 → needs ≡ false → (n : ℕ) (bytes : List ℕ) → is_some (digits_from base needs n (b ∷ bytes)) ≡ is_some (digits_from base true 0 bytes)
unfolding digits_from
underscore base needs b under free n bytes = rw (under, free) (same base bytes true n 0)

-- ---- the loop of the code

-- one byte of the list
pub at_byte : (base : ℕ) (needs : Bool) (i d : ℕ) (bytes : List ℕ) (found : Option Bool) (total : Bool) → i < length bytes
    → ((n : ℕ) (rest : List ℕ) → is_some (digits_from base needs n (get_or bytes i d ∷ rest)) ≡ ends_well base found rest) → is_some (digits_from base needs 0 (drop i bytes)) ≡ total
    → ends_well base found (drop (i + 1) bytes) ≡ total
at_byte base needs i d bytes found total inside step so_far =
    sym (step 0 (drop (i + 1) bytes)) ∙ sym (ap (λ bs. is_some (digits_from base needs 0 bs)) (at_place bytes i d inside)) ∙ so_far

pub at_last : (base : ℕ) (needs : Bool) (i : ℕ) (bytes : List ℕ) (total : Bool) → length bytes ≤ i → is_some (digits_from base needs 0 (drop i bytes)) ≡ total → total ≡ not needs
unfolding digits_from
at_last base true i bytes total past so_far = let s : is_some (digits_from base true 0 (drop i bytes)) ≡ false = rw (drop_of_length-le bytes past) refl in sym so_far ∙ s
at_last base false i bytes total past so_far = let s : is_some (digits_from base false 0 (drop i bytes)) ≡ true = rw (drop_of_length-le bytes past) refl in sym so_far ∙ s

-- ---- signs

mapped : {A B : Type 0} (f : A → B) (found : Option A) → is_some (option_map f found) ≡ is_some found
mapped f None = refl
mapped f (Some x) = refl

unsigned : (a : ℕ) (bytes : List ℕ) → (a == 45) ≡ false → is_some (integer_of (a ∷ bytes)) ≡ is_some (natural_of (a ∷ bytes))
unfolding integer_of
unsigned a bytes e = rw e (mapped (λ n. pos n) (natural_of (a ∷ bytes)))

pub after_sign : (a : ℕ) (bytes : List ℕ) → is_sign a ≡ true → is_some (integer_of (a ∷ bytes)) ≡ is_some (numeral_of bytes)
unfolding integer_of natural_of
after_sign a bytes e = elim (true_or_false (a == 45)) [
  | inl minus ↦ rw minus (mapped (λ n. neg_ℤ (pos n)) (numeral_of bytes))
  | inr other ↦ elim (true_or_false (a == 43)) [
    | inl plus ↦ unsigned a bytes other ∙ (let s : is_some (natural_of (a ∷ bytes)) ≡ is_some (numeral_of bytes) = rw plus refl in s)
    | inr never ↦ let f : false ≡ true = rw (never, other) at e in absurd cc
  ]
]

pub without_sign : (a : ℕ) (bytes : List ℕ) → is_sign a ≡ false → is_some (integer_of (a ∷ bytes)) ≡ is_some (numeral_of (a ∷ bytes))
unfolding integer_of natural_of
without_sign a bytes e = elim (true_or_false (a == 43)) [
  | inl plus ↦ let f : true ≡ false = rw plus at e in absurd cc
  | inr other ↦ elim (true_or_false (a == 45)) [
    | inl minus ↦ let f : true ≡ false = rw (other, minus) at e in absurd cc
    | inr never ↦ unsigned a bytes never ∙ (let s : is_some (natural_of (a ∷ bytes)) ≡ is_some (numeral_of (a ∷ bytes)) = rw other refl in s)
  ]
]

-- ---- the same of a slice, as the code has it

pub no_byte : (bytes : List ℕ) → length bytes < 1 → false ≡ is_some (integer_of bytes)
unfolding integer_of
no_byte [] none = refl
no_byte (a ∷ bytes) none = absurd (omega (arith, none))

pub signed : (bytes : List ℕ) → 1 ≤ length bytes → is_sign (get_or bytes 0 0) ≡ true → is_some (numeral_of (take (length bytes - 1) (drop 1 bytes))) ≡ is_some (integer_of bytes)
signed [] some is = absurd (omega (arith, some))
signed (a ∷ bytes) some is =
    let e : take (length (a ∷ bytes) - 1) bytes ≡ bytes = take_all (length (a ∷ bytes) - 1) bytes (omega arith) in
    ap (λ bs. is_some (numeral_of bs)) e ∙ sym (after_sign a bytes is)
