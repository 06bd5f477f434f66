-- The text of a principal is ASCII.
use Rattle.std.proofs.Common.{◌≡◌, ℕ, zero, suc, ◌<◌, true, List, [], ◌∷◌, ◌++◌, map, arith}
use Rattle.std.specs.List.{AllByRecursion}
use Rattle.std.specs.Str.{is_utf8, IsAscii}
use Rattle.std.proofs.lemmas.Str.{IsUtf8-from_ascii, is_utf8-from_IsUtf8}
use Rattle.ic_principal.specs.Base32.{character, fives}
use Rattle.ic_principal.specs.Bits.{bits}
use Rattle.ic_principal.specs.Checksum.{checksum}
use Rattle.ic_principal.specs.Text.{after_dash, dashed, text_of}
use Rattle.ic_principal.proofs.Base32Laws.{fives-below, character-lt}

abbrev AreLow : List ℕ → Type 0
AreLow bytes = AllByRecursion (λ b. b < 128) bytes

characters_low : (values : List ℕ) → AllByRecursion (λ v. v < 32) values → AreLow (map character values)
characters_low [] all = tt
characters_low (v ∷ values) all = (character-lt v all.0, characters_low values all.1)

after_dash_low : (bytes : List ℕ) → AreLow bytes → AreLow (after_dash bytes)
after_dash_low [] all = tt
after_dash_low (b ∷ bytes) all = (omega arith, all)

dashed_low : (bytes : List ℕ) → AreLow bytes → AreLow (dashed bytes)
unfolding dashed
dashed_low [] all = tt
dashed_low (a ∷ []) all = all
dashed_low (a ∷ b ∷ []) all = all
dashed_low (a ∷ b ∷ c ∷ []) all = all
dashed_low (a ∷ b ∷ c ∷ d ∷ []) all = all
dashed_low (a ∷ b ∷ c ∷ d ∷ e ∷ others) all = (all.0, (all.1.0, (all.1.1.0, (all.1.1.1.0, (all.1.1.1.1.0, after_dash_low (dashed others) (dashed_low others all.1.1.1.1.1))))))

low_ascii : (bytes : List ℕ) → AreLow bytes → IsAscii bytes
low_ascii [] all i = omega arith
low_ascii (b ∷ bytes) all zero = all.0
low_ascii (b ∷ bytes) all (suc i) = low_ascii bytes all.1 i

pub principal_text_utf8 : (p : List ℕ) → is_utf8 (text_of p) ≡ true
unfolding text_of
principal_text_utf8 p =
    let values = fives (checksum p ++ bits p) in
    let text = dashed (map character values) in
    is_utf8-from_IsUtf8 text (IsUtf8-from_ascii text (low_ascii text (dashed_low (map character values) (characters_low values (fives-below (checksum p ++ bits p))))))
