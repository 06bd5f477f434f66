-- What contracts see of a meter.
use Rattle.std.specs.Prelude.{ℕ}

pub record Metered : Type 0 where
  pub limit : ℕ
  pub used : ℕ
