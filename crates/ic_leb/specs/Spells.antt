-- Which bytes spell a number (WebAssembly Core 1.0, section 5.2.2; Candid, "Binary Format").
use Rattle.std.specs.Prelude.{◌≡◌, ℕ, ◌<◌, ◌≤◌, ◌^◌, List, [], ◌∷◌, ◌++◌, length, ℤ, FitsSigned}
use Rattle.std.specs.List.{AllByRecursion}
use Rattle.ic_leb.specs.declared.width.Width.{Width}
use Rattle.ic_leb.specs.Width.{bits, int_width, most_bytes}
use Rattle.ic_leb.specs.Value.{unsigned_value, signed_value}

-- the bytes of one number: bit 7 is set in all but the last
pub record IsOneNumber (bytes : List ℕ) : Type 0 where
  pub front : List ℕ
  pub last : ℕ
  pub whole : bytes ≡ front ++ last ∷ []
  pub continued : AllByRecursion (λ byte. 128 ≤ byte) front
  pub ended : last < 128

-- one number of at most that many bytes, which stands for x; and x fits
pub record Spells {A : Type 0} (value : List ℕ → A) (Fits : A → Type 0) (most : ℕ) (x : A) (bytes : List ℕ) : Type 0 where
  pub one : IsOneNumber bytes
  pub size : length bytes ≤ most
  pub means : x ≡ value bytes
  pub fits : Fits x

-- an unsigned number of the width
abbrev pub SpellsUnsigned : Width → ℕ → List ℕ → Type 0
SpellsUnsigned width = Spells unsigned_value (λ n. n < 2 ^ bits width) (most_bytes width)

-- a signed number of the width
abbrev pub SpellsSigned : Width → ℤ → List ℕ → Type 0
SpellsSigned width = Spells signed_value (λ z. FitsSigned (int_width width) z) (most_bytes width)
