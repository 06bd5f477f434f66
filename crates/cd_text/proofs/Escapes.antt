-- Strings as they are printed are read.
use Rattle.std.proofs.Common.{◌≡◌, ℕ, zero, suc, ◌+◌, ◌*◌, ◌/◌, ◌%◌, ◌<◌, ◌≤◌, Bool, true, false, List, [], ◌∷◌, ◌++◌, Some, refl, sym, ap, subst, inl, inr, arith}
use Rattle.std.specs.Prelude.{◌==◌, ◌||◌, nat_lt, encode_utf8_all}
use Rattle.std.specs.Char.{digit_char}
use Rattle.std.specs.List.{AllByRecursion, flat_map}
use Rattle.std.specs.Str.{is_utf8, IsUtf8, IsAscii}
use lib.Utf8.{encode}
use Rattle.std.proofs.Math.Utf8.{scalar, scalars}
use Rattle.std.proofs.lemmas.Bool.{eqb-true}
use Rattle.std.proofs.lemmas.Grind.{flat_map-append}
use Rattle.std.proofs.lemmas.List.{append-nil}
use Rattle.std.proofs.lemmas.Str.{digit_value-digit_char, IsUtf8-append, IsUtf8-nil, IsUtf8-encode, IsUtf8-from_ascii, IsUtf8-from_is_utf8}
use Rattle.cd_tokens.specs.Label.{IsTextOf}
use Rattle.cd_tokens.specs.Numeral.{digit_of}
use Rattle.cd_tokens.specs.Token.{is_closed}
use Rattle.cd_tokens.specs.Unescaped.{Part, byte, letter, pair, SaysPart, letter_says, Unescaped}
use Rattle.cd_plain.specs.Printed.{hex_escape, escape}
use Rattle.cd_tokens.proofs.Fronts.{true_or_false}
use Rattle.cd_text.proofs.Values.{both}

-- ---- digits

hex_digit : (d : ℕ) → d < 16 → digit_of 16 (digit_char d) ≡ Some d
hex_digit d less =
    let value = digit_value-digit_char d (omega (arith, less)) in
    let small : nat_lt d 16 ≡ true = grind (arith, less) in
    rw (value, small) refl

-- a digit is no quote and no backslash
digit_apart : (d : ℕ) → d < 16 → ((digit_char d == 34) ≡ false) × ((digit_char d == 92) ≡ false) × (digit_char d < 128)
digit_apart d less = elim (true_or_false (nat_lt d 10)) [
  | inl low ↦
      let quote : (48 + d == 34) ≡ false = grind arith in
      let backslash : (48 + d == 92) ≡ false = grind (arith, low) in
      let ascii : 48 + d < 128 = omega (arith, less) in
      rw low (quote, backslash, ascii)
  | inr high ↦
      let quote : (87 + d == 34) ≡ false = grind arith in
      let backslash : (87 + d == 92) ≡ false = grind (arith, high) in
      let ascii : 87 + d < 128 = omega (arith, less) in
      rw high (quote, backslash, ascii)
]

-- ---- what is said

hex_part : (b : ℕ) → b < 256 → SaysPart (pair (b / 16) (b % 16)) (b ∷ []) (hex_escape b)
hex_part b less =
    let value : b ≡ b / 16 * 16 + b % 16 = omega arith in (
      digit_char (b / 16) ∷ digit_char (b % 16) ∷ [],
      refl,
      (digit_char (b / 16), digit_char (b % 16) ∷ [], refl, hex_digit (b / 16) (omega (arith, less)), (digit_char (b % 16), [], refl, hex_digit (b % 16) (omega arith), refl)),
      ap (λ k. k ∷ []) value,
    )

letter_is : (b : ℕ) → (b == 34 || b == 92) ≡ true → letter_says b ≡ Some b
letter_is b is = elim (true_or_false (b == 34)) [
  | inl quote ↦ let e = eqb-true b 34 quote in rw e refl
  | inr other ↦ let f : (b == 92) ≡ true = rw other at is in let e = eqb-true b 92 f in rw e refl
]

neither : (x y : Bool) → (x || y) ≡ false → (x ≡ false) × (y ≡ false)
neither false false e = (refl, refl)
neither false true e = absurd cc
neither true y e = absurd cc

escape_part : (b : ℕ) → (p : Part) × SaysPart p (b ∷ []) (escape b)
escape_part b = elim (true_or_false (b == 34 || b == 92)) [
  | inl is ↦ rw is (letter b, (b, letter_is b is, refl, refl))
  | inr other ↦ elim (true_or_false (nat_lt b 32 || b == 127)) [
    | inl control ↦ rw (other, control) (pair (b / 16) (b % 16), hex_part b (grind (arith, control)))
    | inr shown ↦
        let h = neither (b == 34) (b == 92) other in
        let k = neither (nat_lt b 32) (b == 127) shown in
        let high : 32 ≤ b = grind (arith, k.0) in
        rw (other, shown) (byte b, (high, h.0, h.1, refl, refl))
  ]
]

pub escapes_say : (s : List ℕ) → Unescaped s (flat_map escape s)
escapes_say [] = ([], (refl, refl))
escapes_say (b ∷ s) =
    let p = escape_part b in
    let r = escapes_say s in
    (p.0 ∷ r.0, (b ∷ [], s, escape b, flat_map escape s, refl, refl, p.1, r.1))

pub hex_says : (s : List ℕ) → AllByRecursion (λ b. b < 256) s → Unescaped s (flat_map hex_escape s)
hex_says [] all = ([], (refl, refl))
hex_says (b ∷ s) all =
    let r = hex_says s all.1 in
    (pair (b / 16) (b % 16) ∷ r.0, (b ∷ [], s, hex_escape b, flat_map hex_escape s, refl, refl, hex_part b all.0, r.1))

-- ---- no quote ends a string early

hex_closed : (b : ℕ) (rest : List ℕ) → is_closed false rest ≡ true → is_closed false (hex_escape b ++ rest) ≡ true
hex_closed b rest closed = let d = digit_apart (b % 16) (omega arith) in rw (d.0, d.1) closed

escape_closed : (b : ℕ) (rest : List ℕ) → is_closed false rest ≡ true → is_closed false (escape b ++ rest) ≡ true
escape_closed b rest closed = elim (true_or_false (b == 34 || b == 92)) [
  | inl is ↦ rw is closed
  | inr other ↦ elim (true_or_false (nat_lt b 32 || b == 127)) [
    | inl control ↦ rw (other, control) (hex_closed b rest closed)
    | inr shown ↦ let h = neither (b == 34) (b == 92) other in rw (other, shown) (rw (h.0, h.1) closed)
  ]
]

pub escapes_closed : (s : List ℕ) → is_closed false (flat_map escape s) ≡ true
escapes_closed [] = refl
escapes_closed (b ∷ s) = escape_closed b (flat_map escape s) (escapes_closed s)

pub hexes_closed : (s : List ℕ) → is_closed false (flat_map hex_escape s) ≡ true
hexes_closed [] = refl
hexes_closed (b ∷ s) = hex_closed b (flat_map hex_escape s) (hexes_closed s)

-- ---- what is printed is UTF-8

one_ascii : (b : ℕ) → b < 128 → IsAscii (b ∷ [])
one_ascii b less zero = less
one_ascii b less (suc i) = omega arith

pub ascii_before : (b : ℕ) (bytes : List ℕ) → b < 128 → IsUtf8 bytes → IsUtf8 (b ∷ bytes)
ascii_before b bytes less is = IsUtf8-append (b ∷ []) bytes (IsUtf8-from_ascii (b ∷ []) (one_ascii b less)) is

hex_utf8 : (b : ℕ) (rest : List ℕ) → b < 256 → IsUtf8 rest → IsUtf8 (hex_escape b ++ rest)
hex_utf8 b rest less is =
    let high = digit_apart (b / 16) (omega (arith, less)) in
    let low = digit_apart (b % 16) (omega arith) in
    ascii_before 92 _ (omega arith) (ascii_before (digit_char (b / 16)) _ high.2 (ascii_before (digit_char (b % 16)) rest low.2 is))

pub hexes_utf8 : (s : List ℕ) → AllByRecursion (λ b. b < 256) s → IsUtf8 (flat_map hex_escape s)
hexes_utf8 [] all = IsUtf8-nil
hexes_utf8 (b ∷ s) all = hex_utf8 b (flat_map hex_escape s) all.0 (hexes_utf8 s all.1)

low_utf8 : (b : ℕ) → b < 128 → IsUtf8 (escape b)
low_utf8 b less = elim (true_or_false (b == 34 || b == 92)) [
  | inl is ↦ rw is (ascii_before 92 _ (omega arith) (ascii_before b [] less IsUtf8-nil))
  | inr other ↦ elim (true_or_false (nat_lt b 32 || b == 127)) [
    | inl control ↦ rw (other, control) (subst IsUtf8 (append-nil (hex_escape b)) (hex_utf8 b [] (omega (arith, less)) IsUtf8-nil))
    | inr shown ↦ rw (other, shown) (ascii_before b [] less IsUtf8-nil)
  ]
]

high_stays : (bytes : List ℕ) → AllByRecursion (λ b. 128 ≤ b) bytes → flat_map escape bytes ≡ bytes
high_stays [] all = refl
high_stays (b ∷ bytes) all =
    let high = all.0 in
    let quote : (b == 34) ≡ false = grind (arith, high) in
    let backslash : (b == 92) ≡ false = grind (arith, high) in
    let control : nat_lt b 32 ≡ false = grind (arith, high) in
    let delete : (b == 127) ≡ false = grind (arith, high) in
    rw (quote, backslash, control, delete) (ap (λ (xs : List ℕ). b ∷ xs) (high_stays bytes all.1))

high_encoded : (c : ℕ) → 128 ≤ c → AllByRecursion (λ b. 128 ≤ b) (encode c)
unfolding encode
high_encoded c high =
    let one : nat_lt c 128 ≡ false = grind (arith, high) in
    elim (true_or_false (nat_lt c 2048)) [
      | inl two ↦ rw (one, two) (omega arith, (omega arith, tt))
      | inr more ↦ elim (true_or_false (nat_lt c 65536)) [
        | inl three ↦ rw (one, more, three) (omega arith, (omega arith, (omega arith, tt)))
        | inr four ↦ rw (one, more, four) (omega arith, (omega arith, (omega arith, (omega arith, tt))))
      ]
    ]

low_encoded : (c : ℕ) → nat_lt c 128 ≡ true → encode c ≡ c ∷ []
unfolding encode
low_encoded c low = rw low refl

char_utf8 : (c : ℕ) → scalar c ≡ true → IsUtf8 (flat_map escape (encode c))
char_utf8 c is = elim (true_or_false (nat_lt c 128)) [
  | inl low ↦ rw (low_encoded c low) (subst IsUtf8 (sym (append-nil (escape c))) (low_utf8 c (grind (arith, low))))
  | inr high ↦ rw (high_stays (encode c) (high_encoded c (grind (arith, high)))) (IsUtf8-encode c is)
]

chars_utf8 : (cs : List ℕ) → scalars cs ≡ true → IsUtf8 (flat_map escape (encode_utf8_all cs))
chars_utf8 [] all = IsUtf8-nil
chars_utf8 (c ∷ cs) all =
    let h = both (scalar c) (scalars cs) all in
    rw (flat_map-append escape (encode c) (encode_utf8_all cs)) (IsUtf8-append _ _ (char_utf8 c h.0) (chars_utf8 cs h.1))

pub escapes_utf8 : (s : List ℕ) → is_utf8 s ≡ true → IsUtf8 (flat_map escape s)
escapes_utf8 s is = let h = IsUtf8-from_is_utf8 s is in subst (λ t. IsUtf8 (flat_map escape t)) h.1.1 (chars_utf8 h.0 h.1.0)

-- a text as it is printed between quotes
pub escapes_text : (s : List ℕ) → is_utf8 s ≡ true → IsTextOf s (flat_map escape s)
escapes_text s is = (escapes_say s, is)
