-- What contracts see of a number of a test file.
use Rattle.std.specs.Prelude.{ℕ, List}

-- a number, and how it is written
pub record WrittenNumber : Type 0 where
  pub written : List ℕ
  pub value : ℕ
