-- Spellings that several types share (Candid specification, "Binary Format", M).
use Rattle.std.specs.Prelude.{◌≡◌, ℕ, ℤ, ◌<◌, ◌≤◌, ◌^◌, true, List, ◌∷◌, ◌++◌, length}
use Rattle.std.specs.Int.{Width, byte_len, to_le_bytes, cast_signed}
use Rattle.std.specs.Str.{is_utf8}
use Rattle.ic_leb.specs.declared.width.Width.TheVariants.{Candid}
use Rattle.ic_leb.specs.Spells.{SpellsUnsigned}

-- a number of fixed width: its bytes, the lowest first
abbrev pub SpellsNatural : Width → ℕ → List ℕ → Type 0
SpellsNatural width n bytes = (n < 256 ^ byte_len width) × (bytes ≡ to_le_bytes width n)

-- a signed number of fixed width, in two's complement
abbrev pub SpellsInteger : Width → ℤ → List ℕ → Type 0
SpellsInteger width z bytes = (n : ℕ) × (cast_signed width n ≡ z) × SpellsNatural width n bytes

-- bytes: how many there are, and the bytes
pub record SpellsCounted (s bytes : List ℕ) : Type 0 where
  pub count : List ℕ
  pub whole : bytes ≡ count ++ s
  pub counted : SpellsUnsigned Candid (length s) count

-- a text: its UTF-8, counted
abbrev pub SpellsText : List ℕ → List ℕ → Type 0
SpellsText s bytes = (is_utf8 s ≡ true) × SpellsCounted s bytes

-- a value with the byte 01 in front
abbrev pub SpellsTagged : {A : Type 0} → (A → List ℕ → Type 0) → A → List ℕ → Type 0
SpellsTagged P x bytes = (rest : List ℕ) × (bytes ≡ 1 ∷ rest) × P x rest

-- a principal: 01, and at most 29 bytes, counted
abbrev pub SpellsPrincipal : List ℕ → List ℕ → Type 0
SpellsPrincipal = SpellsTagged (λ p bytes. (length p ≤ 29) × SpellsCounted p bytes)

-- a method of a service: 01, the service, and the name
abbrev pub SpellsFunc : List ℕ × List ℕ → List ℕ → Type 0
SpellsFunc = SpellsTagged (λ f bytes. (front rest : List ℕ) × (bytes ≡ front ++ rest) × SpellsPrincipal f.0 front × SpellsText f.1 rest)
