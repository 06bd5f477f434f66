-- Names, texts and labels are read exactly.
use Rattle.std.proofs.Common.{◌≡◌, ℕ, suc, ◌^◌, ◌<◌, true, false, List, [], ◌∷◌, Option, Some, None, refl, sym, ap, subst, inl, inr, arith}
use Rattle.std.specs.Prelude.{◌&&◌, not, nat_lt, zero}
use Rattle.std.specs.List.{list_all}
use Rattle.std.specs.Str.{is_utf8, IsUtf8, IsAscii}
use Rattle.std.proofs.lemmas.Str.{IsUtf8-from_ascii, IsUtf8-from_is_utf8}
use Rattle.ic_base.proofs.Steps.{bind_some, some_is}
use Rattle.cd_types.specs.FieldId.{field_id_of}
use Rattle.cd_tokens.specs.Bytes.{is_digit, is_word_byte}
use Rattle.cd_tokens.specs.Token.{Token, run, quoted, mark, arrow}
use Rattle.cd_tokens.specs.Label.{IsTextOf, is_name, IsNameOf, is_plain_number, IsLabel}
use Rattle.cd_tokens.specs.ReadNumeral.{numeral_of, below}
use Rattle.cd_tokens.specs.ReadString.{unescaped_of}
use Rattle.cd_tokens.specs.ReadLabel.{utf8_of, text_of, name_of, id_of, label_of}
use Rattle.cd_tokens.proofs.Fronts.{both, true_or_false, not_true}
use Rattle.cd_tokens.proofs.Numerals.{numeral_again, numeral_takes}
use Rattle.cd_tokens.proofs.Strings.{unescaped_again, unescaped_takes, number_below, is_below}

-- ---- a name is UTF-8

word_is_ascii : (b : ℕ) → is_word_byte b ≡ true → b < 128
word_is_ascii b h = grind (arith, h)

pub words_are_ascii : (bytes : List ℕ) → list_all is_word_byte bytes ≡ true → IsAscii bytes
words_are_ascii [] all i = omega arith
words_are_ascii (b ∷ bytes) all zero = word_is_ascii b (both (is_word_byte b) (list_all is_word_byte bytes) all).0
words_are_ascii (b ∷ bytes) all (suc i) = words_are_ascii bytes (both (is_word_byte b) (list_all is_word_byte bytes) all).1 i

name_words : (name : List ℕ) → is_name name ≡ true → list_all is_word_byte name ≡ true
name_words [] h = absurd cc
name_words (b ∷ bytes) h =
    let t = both (is_word_byte b && not (is_digit b)) (list_all is_word_byte bytes) h in
    let first = both (is_word_byte b) (not (is_digit b)) t.0 in
    rw (first.0, t.1) refl

pub name_utf8 : (name : List ℕ) → is_name name ≡ true → IsUtf8 name
name_utf8 name h = IsUtf8-from_ascii name (words_are_ascii name (name_words name h))

-- ---- texts, names and labels

pub text_again : (text written : List ℕ) → IsTextOf text written → text_of written ≡ Some text
unfolding text_of
text_again text written is = rw (unescaped_again text written is.0, is.1) refl

pub text_takes : (text written : List ℕ) → text_of written ≡ Some text → IsTextOf text written
unfolding text_of
text_takes text written e =
    let a = bind_some (unescaped_of written) utf8_of text e in
    elim (true_or_false (is_utf8 a.0)) [
      | inl holds ↦ let same = some_is {A = List ℕ} a.0 text (rw holds at a.2) in subst (λ t. IsTextOf t written) same (unescaped_takes a.0 written a.1, holds)
      | inr fails ↦ let f : None ≡ Some text = rw fails at a.2 in absurd cc
    ]

pub name_again : (name : List ℕ) (t : Token) → IsNameOf name t → name_of t ≡ Some name
unfolding name_of
name_again name (run r) is = rw (is.0, is.1) refl
name_again name (quoted s) is = text_again name s is
name_again name (mark m) is = absurd is
name_again name arrow is = absurd is

pub name_takes : (name : List ℕ) (t : Token) → name_of t ≡ Some name → IsNameOf name t
unfolding name_of
name_takes name (run r) e = elim (true_or_false (is_name r)) [
  | inl holds ↦ (holds, sym (some_is {A = List ℕ} r name (rw holds at e)))
  | inr fails ↦ let f : None ≡ Some name = rw fails at e in absurd cc
]
name_takes name (quoted s) e = text_takes name s e
name_takes name (mark m) e = absurd cc
name_takes name arrow e = absurd cc

-- a name is no number
no_number : (r : List ℕ) → is_name r ≡ true → is_plain_number r ≡ false
no_number [] h = absurd cc
no_number (b ∷ []) h =
    let t = both (is_word_byte b && not (is_digit b)) (list_all is_word_byte []) h in not_true (is_digit b) (both (is_word_byte b) (not (is_digit b)) t.0).1
no_number (b ∷ c ∷ bytes) h =
    let t = both (is_word_byte b && not (is_digit b)) (list_all is_word_byte (c ∷ bytes)) h in rw (not_true (is_digit b) (both (is_word_byte b) (not (is_digit b)) t.0).1) refl

pub label_again : (t : Token) (id : ℕ) → IsLabel id t → label_of t ≡ Some id
unfolding label_of
label_again (run r) id is = elim is [
  | inl number ↦ rw (number.0, numeral_again id r number.1) (is_below (2 ^ 32) id number.2)
  | inr name ↦ rw (no_number r name.1.0, name.1.0, name.2, name.1.1) refl
]
label_again (quoted s) id is = elim is [ inl number ↦ absurd number | inr name ↦ rw (text_again name.0 s name.1, name.2) refl ]
label_again (mark m) id is = elim is [ inl number ↦ absurd number | inr name ↦ absurd name.1 ]
label_again arrow id is = elim is [ inl number ↦ absurd number | inr name ↦ absurd name.1 ]

pub below_takes : (limit n : ℕ) (read : Option ℕ) → below limit read ≡ Some n → (read ≡ Some n) × (n < limit)
below_takes limit n None e = absurd cc
below_takes limit n (Some m) e =
    let same = number_below limit m n e in
    elim (true_or_false (nat_lt n limit)) [
      | inl small ↦ (ap (λ (k : ℕ). Some k) same, grind (arith, small))
      | inr large ↦ let g : nat_lt m limit ≡ false = rw same large in let f : None ≡ Some n = rw g at e in absurd cc
    ]

pub label_takes : (t : Token) (id : ℕ) → label_of t ≡ Some id → IsLabel id t
unfolding label_of
label_takes (run r) id e = elim (true_or_false (is_plain_number r)) [
  | inl holds ↦
      let f : below (2 ^ 32) (numeral_of r) ≡ Some id = rw holds at e in
      let b = below_takes (2 ^ 32) id (numeral_of r) f in inl (holds, numeral_takes id r b.0, b.1)
  | inr other ↦ elim (true_or_false (is_name r)) [
    | inl name ↦ inr (r, (name, refl), sym (some_is {A = ℕ} (field_id_of r) id (rw (other, name) at e)))
    | inr none ↦ let f : None ≡ Some id = rw (other, none) at e in absurd cc
  ]
]
label_takes (quoted s) id e =
    let a = bind_some (text_of s) id_of id e in inr (a.0, text_takes a.0 s a.1, sym (some_is {A = ℕ} (field_id_of a.0) id a.2))
label_takes (mark m) id e = absurd cc
label_takes arrow id e = absurd cc

-- ---- the text of bytes

pub kept : (bytes text : List ℕ) → text ≡ bytes → is_utf8 text ≡ true → utf8_of bytes ≡ Some text
kept bytes text same utf8 = let h : is_utf8 bytes ≡ true = subst (λ bs. is_utf8 bs ≡ true) same utf8 in rw h (ap (λ (bs : List ℕ). Some bs) (sym same))

pub not_kept : (bytes : List ℕ) → (IsUtf8 bytes → ⊥) → utf8_of bytes ≡ None
not_kept bytes not = elim (true_or_false (is_utf8 bytes)) [
  | inl holds ↦ absurd (not (IsUtf8-from_is_utf8 bytes holds))
  | inr fails ↦ rw fails refl
]
