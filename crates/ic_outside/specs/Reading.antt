-- What a read or a write that cannot fail does.
use Rattle.std.specs.Prelude.{◌≡◌, ℕ, Result, IsOk}

-- the call succeeds, and its count of faults stays
pub record IsSure {T E : Type 0} (before now : ℕ) (result : Result T E) : Type 0 where
  pub ok : IsOk result
  pub count : now ≡ before
