-- What contracts see of pages.
use Rattle.std.specs.Prelude.{ℕ, List}

pub record Paged : Type 0 where
  pub bytes : List ℕ
  -- the bytes at the beginning of the message; none where no message has begun
  pub before : List ℕ
  -- how many ranges of 4,096 bytes the message has saved
  pub saved : ℕ
