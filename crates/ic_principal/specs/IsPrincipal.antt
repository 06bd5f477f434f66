-- What a principal is.
use Rattle.std.specs.Prelude.{ℕ, ◌<◌, ◌≤◌, List, length, All}

-- at most 29 bytes (IC Interface Specification, "Principals")
pub record IsPrincipal (bytes : List ℕ) : Type 0 where
  pub short : length bytes ≤ 29
  pub bytes_below : All (λ b. b < 256) bytes
