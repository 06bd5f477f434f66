-- Numbers in words.
use Rattle.std.proofs.Common.{◌≡◌, ℕ, ◌<◌, ◌≤◌, ◌^◌, true, cond, List, length, ap, sym, ◌∙◌, arith, rules, inl, inr, Ok, Err}
use Rattle.std.specs.Prelude.{◌&&◌, nat_le}
use Rattle.std.specs.Char.{is_ascii_digit}
use Rattle.std.specs.List.{list_all}
use Rattle.std.specs.Str.Parse.{digits_value, ParsesUnsigned}
use Rattle.std.proofs.lemmas.Bool.{and_parts, le-leb, lt-leb, cases_Bool, leb-true}
use Rattle.std.proofs.lemmas.Str.Parse.{IsNumeralModel, numerals_by_value, parse_digits}
use Rattle.ic_script.specs.Words.{is_numeral}
use Rattle.ic_script.specs.Command.{number_word}
use Rattle.ic_script.specs.declared.line_cause.LineCause.TheVariants.{Number}

numerals : IsNumeralModel (λ ds. list_all is_ascii_digit ds ≡ true) (digits_value 10)
numerals = numerals_by_value _ (search rules)

digits : (word : List ℕ) → is_numeral word ≡ true → list_all is_ascii_digit word ≡ true
unfolding is_numeral
digits word h = (and_parts _ _ (and_parts _ _ h).0).1

some : (word : List ℕ) → is_numeral word ≡ true → 0 < length word
unfolding is_numeral
some word h = grind arith

decided : (most : ℕ) (word : List ℕ) → is_numeral word ≡ true
    → number_word most word ≡ cond (nat_le (digits_value 10 word) most) (Ok (digits_value 10 word)) (Err Number)
decided most word h = ap (λ t. cond (t && nat_le (digits_value 10 word) most) (Ok (digits_value 10 word)) (Err Number)) h

-- a number that was read
pub number-good : (E : Type 0) (most n : ℕ) (word : List ℕ) → is_numeral word ≡ true → ParsesUnsigned {E = E} 64 10 word (Ok n) → n ≤ most
    → number_word most word ≡ Ok n
number-good E most n word h read small =
    let is = (parse_digits numerals {E = E} 64 word (Ok n) read (digits word h)).1 in
    decided most word h ∙ ap (λ t. cond t (Ok (digits_value 10 word)) (Err Number)) (le-leb _ _ (omega (arith, is))) ∙ ap (λ n. Ok n) (sym is)

-- and one that is too great
pub number-great : (E : Type 0) (most n : ℕ) (word : List ℕ) → is_numeral word ≡ true → ParsesUnsigned {E = E} 64 10 word (Ok n) → most < n
    → number_word most word ≡ Err Number
number-great E most n word h read great =
    let is = (parse_digits numerals {E = E} 64 word (Ok n) read (digits word h)).1 in
    decided most word h ∙ ap (λ t. cond t (Ok (digits_value 10 word)) (Err Number)) (lt-leb _ _ (omega (arith, is)))

-- a number that does not fit is too great
pub number-unread : {E : Type 0} (most : ℕ) (e : E) (word : List ℕ) → is_numeral word ≡ true → ParsesUnsigned 64 10 word (Err e) → most < 2 ^ 64
    → number_word most word ≡ Err Number
number-unread most e word h read fits =
    let bad = parse_digits numerals 64 word (Err e) read (digits word h) in
    decided most word h ∙ elim (cases_Bool (nat_le (digits_value 10 word) most)) [
      | inl small ↦ absurd (bad (some word h, omega (arith, leb-true _ _ small)))
      | inr great ↦ ap (λ t. cond t (Ok (digits_value 10 word)) (Err Number)) great
    ]
