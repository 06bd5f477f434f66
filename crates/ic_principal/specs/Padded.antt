-- How a principal keeps its bytes: in an array of 29, with zeros after them.
use Rattle.std.specs.Prelude.{◌≡◌, ℕ, ◌-◌, ◌<◌, ◌≤◌, List, ◌++◌, length, take, replicate, All}
use Rattle.std.proofs.Common.{ap, arith, length-append}
use Rattle.std.proofs.lemmas.List.{length-replicate, length-take}

-- the bytes with zeros after them, 29 in all
abbrev pub padded : List ℕ → List ℕ
padded bytes = bytes ++ replicate (29 - length bytes) 0

-- the array keeps its first `len` bytes
pub record IsPadded (array : List ℕ) (len : ℕ) : Type 0 where
  pub fits : len ≤ 29
  pub zeros : array ≡ padded (take len array)
  pub bytes_below : All (λ b. b < 256) (take len array)

-- a padded array has 29 bytes
pub length-padded : (array : List ℕ) (len : ℕ) → IsPadded array len → length array ≡ 29
length-padded array len h =
    omega (arith, h.fits, ap length h.zeros, length-append (take len array) (replicate (29 - length (take len array)) 0), length-replicate {A = ℕ} (29 - length (take len array)) 0, length-take len array)

-- it keeps as many bytes as it says
pub length-kept : (array : List ℕ) (len : ℕ) → IsPadded array len → length (take len array) ≡ len
length-kept array len h = omega (arith, h.fits, length-padded array len h, length-take len array)
