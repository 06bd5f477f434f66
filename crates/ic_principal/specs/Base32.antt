-- Base32 (RFC 4648, section 6), in lower case and without padding characters.
use Rattle.std.specs.Prelude.{ℕ, ◌==◌, Bool, false, Option, List, [], ◌∷◌, ◌++◌, replicate, take, codes, slice_index}
use Rattle.std.specs.List.{position}
use Rattle.ic_principal.specs.Bits.{number}

-- the thirty-two characters, in the order of their values
unfoldable pub alphabet : List ℕ
alphabet = codes "abcdefghijklmnopqrstuvwxyz234567"

-- the character of a value below 32
abbrev pub character : ℕ → ℕ
character value = slice_index alphabet value

-- the values of each five bits; zeros fill up the last
unfoldable pub fives : List Bool → List ℕ
fives [] = []
fives (a ∷ b ∷ c ∷ d ∷ e ∷ bits) = number (a ∷ b ∷ c ∷ d ∷ e ∷ []) ∷ fives bits
fives bits = number (take 5 (bits ++ replicate 5 false)) ∷ []

-- the value of a character, if it has one
abbrev pub value_of : ℕ → Option ℕ
value_of character = position (λ other. other == character) alphabet

-- the bytes of each eight bits; what is left over makes none
unfoldable pub eights : List Bool → List ℕ
eights (a ∷ b ∷ c ∷ d ∷ e ∷ f ∷ g ∷ h ∷ bits) = number (a ∷ b ∷ c ∷ d ∷ e ∷ f ∷ g ∷ h ∷ []) ∷ eights bits
eights bits = []
