-- What contracts see of a store.
use Rattle.std.specs.Prelude.{ℕ, Option}
use Rattle.wm_store.specs.Lists.{Lists}

pub record Held : Type 0 where
  pub lists : Lists
  -- the lists at the beginning of the message, where one has begun
  pub begun : Option Lists
  -- how many ranges of 4,096 bytes the message has saved
  pub saved : ℕ
