-- Where no number is at the front of the bytes, and why.
use Rattle.std.specs.Prelude.{◌≡◌, ℕ, ◌<◌, ◌≤◌, ◌^◌, List, ◌++◌, length, take, FitsSigned}
use Rattle.std.specs.List.{AllByRecursion}
use Rattle.ic_leb.specs.declared.width.Width.{Width}
use Rattle.ic_leb.specs.Width.{bits, int_width, most_bytes}
use Rattle.ic_leb.specs.Value.{unsigned_value, signed_value}
use Rattle.ic_leb.specs.Spells.{IsOneNumber}

-- the bytes end before the number does, and it could go on
pub record IsCutShort (most : ℕ) (bytes : List ℕ) : Type 0 where
  pub fewer : length bytes < most
  pub continued : AllByRecursion (λ byte. 128 ≤ byte) bytes

-- as many bytes as a number may have, and it goes on
pub record RunsOn (most : ℕ) (bytes : List ℕ) : Type 0 where
  pub enough : most ≤ length bytes
  pub continued : AllByRecursion (λ byte. 128 ≤ byte) (take most bytes)

-- the number ends in time, and what it stands for does not fit
pub record StandsForTooMuch {A : Type 0} (value : List ℕ → A) (Fits : A → Type 0) (most : ℕ) (bytes : List ℕ) : Type 0 where
  pub front : List ℕ
  pub rest : List ℕ
  pub whole : bytes ≡ front ++ rest
  pub one : IsOneNumber front
  pub size : length front ≤ most
  pub unfit : Fits (value front) → ⊥

-- an unsigned number that does not fit the width
abbrev pub IsTooWideUnsigned : Width → List ℕ → Type 0
IsTooWideUnsigned width = StandsForTooMuch unsigned_value (λ n. n < 2 ^ bits width) (most_bytes width)

-- a signed number that does not fit the width
abbrev pub IsTooWideSigned : Width → List ℕ → Type 0
IsTooWideSigned width = StandsForTooMuch signed_value (λ z. FitsSigned (int_width width) z) (most_bytes width)
