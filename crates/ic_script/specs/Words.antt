-- The words of a line.
use Rattle.std.specs.Prelude.{ℕ, Bool, ◌&&◌, ◌==◌, nat_le, false, List, [], ◌∷◌, length, Option, Some, None, not}
use Rattle.std.specs.List.{slice_split, list_all}
use Rattle.std.specs.Char.{is_ascii_digit}

-- from space to tilde, the printable bytes of ASCII
abbrev pub is_printable : ℕ → Bool
is_printable byte = nat_le 32 byte && nat_le byte 126

-- what comes before, between and after the spaces of a line
unfoldable pub words_of : List ℕ → List (List ℕ)
words_of line = slice_split (λ byte. byte == 32) line

-- a word with a byte
abbrev pub is_word : List ℕ → Bool
is_word word = not (length word == 0)

-- every byte is printable, and single spaces are between the words
unfoldable pub is_well_formed : List ℕ → Bool
is_well_formed line = list_all is_printable line && list_all is_word (words_of line)

-- a byte after another: printable, and no space after a space
abbrev pub may_follow : (last byte : ℕ) → Bool
may_follow last byte = is_printable byte && not (byte == 32 && last == 32)

-- a zero with something after it
abbrev pub has_leading_zero : List ℕ → Bool
has_leading_zero (first ∷ second ∷ _) = first == 48
has_leading_zero _ = false

-- a number in decimal digits, without a sign and without a leading zero
unfoldable pub is_numeral : List ℕ → Bool
is_numeral word = is_word word && list_all is_ascii_digit word && not (has_leading_zero word)

-- the words of the text that is left, if any is
abbrev pub words_left : Option (List ℕ) → List (List ℕ)
words_left None = []
words_left (Some text) = words_of text
