-- Printable lines are text.
use Rattle.std.proofs.lemmas.List.Splits.{length-slice_split}
use Rattle.std.specs.Prelude.{◌==◌}
use Rattle.std.proofs.Common.{◌≡◌, ℕ, ◌<◌, length, true, false, List, [], ◌∷◌, arith}
use Rattle.std.specs.Str.{IsUtf8, IsAscii}
use Rattle.std.specs.List.{list_all}
use Rattle.std.proofs.lemmas.Str.{IsUtf8-from_ascii}
use Rattle.std.proofs.lemmas.Str.Ascii.{IsAscii-cons, IsAscii-nil}
use Rattle.std.proofs.lemmas.Bool.{false_from_ne_true, and_parts}
use Rattle.std.proofs.lemmas.Bool.Decides.{nat_tests}
use Rattle.ic_script.specs.Words.{is_printable, is_well_formed, words_of}

printable : (byte : ℕ) → is_printable byte ≡ true → byte < 128
printable byte h = grind (arith, nat_tests)

printable_ascii : (line : List ℕ) → list_all is_printable line ≡ true → IsAscii line
printable_ascii [] h = IsAscii-nil
printable_ascii (byte ∷ bytes) h =
    let both = and_parts _ _ h in
    IsAscii-cons byte bytes (printable byte both.0) (printable_ascii bytes both.1)

-- bytes that are no text are not well formed
pub is_well_formed-not_text : (line : List ℕ) → (IsUtf8 line → ⊥) → is_well_formed line ≡ false
unfolding is_well_formed
is_well_formed-not_text line h =
    false_from_ne_true _ (λ both. h (IsUtf8-from_ascii line (printable_ascii line (and_parts _ _ both).0)))

pub ruleset not_text = is_well_formed-not_text

-- a text has a word, though it may be empty
pub length-words_of : (text : List ℕ) → 0 < length (words_of text)
unfolding words_of
length-words_of text = omega (arith, length-slice_split (λ byte. byte == 32) text)
