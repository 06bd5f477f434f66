-- Bytes after their checksum, as the text of a principal spells them.
use Rattle.std.specs.Prelude.{◌≡◌, ℕ, ◌≤◌, List, length, take, drop}
use Rattle.ic_principal.specs.Bits.{bits}
use Rattle.ic_principal.specs.Checksum.{checksum}

-- the first four bytes are the checksum of those after them
pub record HasChecksum (bytes : List ℕ) : Type 0 where
  pub enough : 4 ≤ length bytes
  pub front : bits (take 4 bytes) ≡ checksum (drop 4 bytes)
