-- Numbers as they are printed are read.
use Rattle.std.proofs.Common.{◌≡◌, ℕ, suc, ◌+◌, ◌*◌, ◌/◌, ◌%◌, ◌<◌, ◌≤◌, ◌^◌, true, false, List, [], ◌∷◌, ◌++◌, length, map, Some, refl, sym, ap, subst, ◌∙◌, inl, inr, ◌⊎◌, arith}
use Rattle.std.specs.Prelude.{ℤ, pos, negsuc, ◌==◌, nat_le, nat_lt}
use Rattle.std.specs.Char.{digit_char, digit_value}
use Rattle.std.specs.Fmt.{decimal, signed_decimal}
use Rattle.std.specs.Int.Digits.{number_from_digits}
use Rattle.std.specs.Int.Signed.{mag}
use Rattle.std.specs.List.{AllByRecursion, list_all}
use Rattle.std.proofs.lemmas.Fmt.{decimal_by_steps_wide}
use Rattle.std.proofs.lemmas.Int.Digits.{number_after_append}
use Rattle.std.proofs.lemmas.List.{map_push}
use Rattle.std.proofs.lemmas.Str.{digit_value-digit_char}
use Rattle.cd_tokens.specs.Bytes.{is_digit, is_word_byte, goes_on}
use Rattle.cd_tokens.specs.Label.{is_plain_number, IsLabel}
use Rattle.cd_tokens.specs.Numeral.{digit_of, AreDigits, IsNumeral, IsNatural, IsInteger}
use Rattle.cd_tokens.specs.Token.{run, is_run}

abbrev lead : List ℕ → ℕ
lead [] = 0
lead (d ∷ ds) = d

-- bytes that write a number: its digits, of which the first is not 0, but for 0 itself
record Writes (n : ℕ) (bytes : List ℕ) : Type 0 where
  digits : List ℕ
  written : bytes ≡ map (λ d. 48 + d) digits
  small : AllByRecursion (λ d. d < 10) digits
  value : number_from_digits 10 digits ≡ n
  first : ((n < 10) × (digits ≡ n ∷ [])) ⊎ (0 < lead digits)

lead_kept : (ds es : List ℕ) → 0 < lead ds → 0 < lead (ds ++ es)
lead_kept [] es some = absurd (omega (arith, some))
lead_kept (d ∷ ds) es some = some

all_push : (ds : List ℕ) (d : ℕ) → AllByRecursion (λ x. x < 10) ds → d < 10 → AllByRecursion (λ x. x < 10) (ds ++ d ∷ [])
all_push [] d all less = (less, tt)
all_push (x ∷ ds) d all less = (all.0, all_push ds d all.1 less)

writes_one : (n : ℕ) → n < 10 → Writes n ((48 + n) ∷ [])
writes_one n less = record { digits = n ∷ []; written = refl; small = (less, tt); value = omega arith; first = inl (less, refl) }

writes_more : (n : ℕ) (bytes : List ℕ) → 10 ≤ n → Writes (n / 10) bytes → Writes n (bytes ++ ((48 + n % 10) ∷ []))
writes_more n bytes tens w = record {
  digits = w.digits ++ n % 10 ∷ [];
  written = ap (λ (xs : List ℕ). xs ++ (48 + n % 10) ∷ []) w.written ∙ sym (map_push (λ d. 48 + d) w.digits (n % 10));
  small = all_push w.digits (n % 10) w.small (omega arith);
  value = let front = w.value in let e = number_after_append 10 0 w.digits (n % 10 ∷ []) in e ∙ ap (λ k. k * 10 + n % 10) front ∙ omega arith;
  first = inr (elim w.first [ inl one ↦ rw one.1 (omega arith) | inr some ↦ lead_kept w.digits (n % 10 ∷ []) some ]);
}

writes : (n : ℕ) → n < 10 ^ 64 → Writes n (decimal n)
writes n small = decimal_by_steps_wide Writes writes_one writes_more n small

some_digit : (n : ℕ) (bytes : List ℕ) → Writes n bytes → (d : ℕ) × (ds : List ℕ) × (bytes ≡ (48 + d) ∷ map (λ e. 48 + e) ds) × (d < 10) × AllByRecursion (λ e. e < 10) ds
some_digit n bytes w = go w.digits w.written w.small w.first
  where
    go : (ds : List ℕ) → bytes ≡ map (λ e. 48 + e) ds → AllByRecursion (λ e. e < 10) ds → ((n < 10) × (ds ≡ n ∷ [])) ⊎ (0 < lead ds) → (d : ℕ) × (es : List ℕ) × (bytes ≡ (48 + d) ∷ map (λ e. 48 + e) es) × (d < 10) × AllByRecursion (λ e. e < 10) es
    go [] e all (inl one) = let k = ap length one.1 in absurd (omega (arith, k))
    go [] e all (inr some) = absurd (omega (arith, some))
    go (d ∷ ds) e all some = (d, ds, e, all.0, all.1)

-- ---- digits

digit_is : (d : ℕ) → d < 10 → digit_of 10 (48 + d) ≡ Some d
digit_is d less =
    let small : nat_lt d 10 ≡ true = grind (arith, less) in
    let char_is : digit_char d ≡ 48 + d = rw small refl in
    let value : digit_value (48 + d) ≡ d = ap digit_value (sym char_is) ∙ digit_value-digit_char d (omega (arith, less)) in
    rw (value, small) refl

are_digits : (d : ℕ) (ds : List ℕ) → d < 10 → AllByRecursion (λ e. e < 10) ds → AreDigits 10 (d ∷ ds) (map (λ e. 48 + e) (d ∷ ds))
are_digits d [] less all = (48 + d, refl, digit_is d less)
are_digits d (e ∷ ds) less all = (48 + d, map (λ x. 48 + x) (e ∷ ds), digit_is d less, inl refl, are_digits e ds all.0 all.1)

digit_byte : (d : ℕ) → d < 10 → is_digit (48 + d) ≡ true
digit_byte d less =
    let low : nat_le 48 (48 + d) ≡ true = grind arith in
    let high : nat_le (48 + d) 57 ≡ true = grind (arith, less) in
    rw (low, high) refl

word_byte : (d : ℕ) → d < 10 → is_word_byte (48 + d) ≡ true
word_byte d less = let h = digit_byte d less in grind (arith, less, h)

all_digits : (ds : List ℕ) → AllByRecursion (λ e. e < 10) ds → list_all is_digit (map (λ e. 48 + e) ds) ≡ true
all_digits [] all = refl
all_digits (d ∷ ds) all = rw (digit_byte d all.0, all_digits ds all.1) refl

all_words : (ds : List ℕ) → AllByRecursion (λ e. e < 10) ds → list_all is_word_byte (map (λ e. 48 + e) ds) ≡ true
all_words [] all = refl
all_words (d ∷ ds) all = rw (word_byte d all.0, all_words ds all.1) refl

-- ---- what is printed

pub decimal_numeral : (n : ℕ) → n < 10 ^ 64 → IsNumeral n (decimal n)
decimal_numeral n small = let w = writes n small in go w.digits w.written w.small w.value w.first
  where
    go : (ds : List ℕ) → decimal n ≡ map (λ e. 48 + e) ds → AllByRecursion (λ e. e < 10) ds → number_from_digits 10 ds ≡ n → ((n < 10) × (ds ≡ n ∷ [])) ⊎ (0 < lead ds) → IsNumeral n (decimal n)
    go [] e all is (inl one) = let k = ap length one.1 in absurd (omega (arith, k))
    go [] e all is (inr some) = absurd (omega (arith, some))
    go (d ∷ ds) e all is some = inl (d ∷ ds, subst (AreDigits 10 (d ∷ ds)) (sym e) (are_digits d ds all.0 all.1), sym is)

pub decimal_run : (n : ℕ) → n < 10 ^ 64 → is_run (decimal n) ≡ true
decimal_run n small = let w = some_digit n (decimal n) (writes n small) in rw (w.2, word_byte w.0 w.3, all_words w.1 w.4) refl

decimal_goes_on : (n : ℕ) → n < 10 ^ 64 → (goes_on (decimal n) ≡ true) × (list_all is_word_byte (decimal n) ≡ true)
decimal_goes_on n small = let w = some_digit n (decimal n) (writes n small) in (rw w.2 (word_byte w.0 w.3), rw (w.2, word_byte w.0 w.3, all_words w.1 w.4) refl)

pub decimal_label : (id : ℕ) → id < 2 ^ 32 → IsLabel id (run (decimal id))
decimal_label id small = let wide : id < 10 ^ 64 = omega (arith, small) in let w = writes id wide in inl (plain_is w, decimal_numeral id wide, small)
  where
    go : (ds : List ℕ) → AllByRecursion (λ e. e < 10) ds → ((id < 10) × (ds ≡ id ∷ [])) ⊎ (0 < lead ds) → is_plain_number (map (λ e. 48 + e) ds) ≡ true
    go [] all (inl one) = let k = ap length one.1 in absurd (omega (arith, k))
    go [] all (inr some) = absurd (omega (arith, some))
    go (d ∷ []) all some = digit_byte d all.0
    go (d ∷ e ∷ ds) all (inl one) = let k = ap length one.1 in absurd (omega (arith, k))
    go (d ∷ e ∷ ds) all (inr some) =
        let other : (48 + d == 48) ≡ false = grind (arith, some) in rw (digit_byte d all.0, other, digit_byte e all.1.0, all_digits ds all.1.1) refl

    plain_is : Writes id (decimal id) → is_plain_number (decimal id) ≡ true
    plain_is w = ap is_plain_number w.written ∙ go w.digits w.small w.first

pub decimal_natural : (n : ℕ) → n < 10 ^ 64 → IsNatural n (decimal n)
decimal_natural n small = inl (decimal_numeral n small)

pub signed_integer : (z : ℤ) → mag z < 2 ^ 127 → IsInteger z (signed_decimal z)
signed_integer (pos n) small = inl (n, refl, decimal_natural n (omega (arith, small)))
signed_integer (negsuc n) small = inr (suc n, decimal (suc n), refl, refl, decimal_numeral (suc n) (omega (arith, small)))

pub signed_run : (z : ℤ) → mag z < 2 ^ 127 → is_run (signed_decimal z) ≡ true
signed_run (pos n) small = decimal_run n (omega (arith, small))
signed_run (negsuc n) small = let h = decimal_goes_on (suc n) (omega (arith, small)) in rw (h.0, h.1) refl
