-- What contracts see of arguments whose names are slots.
use Rattle.std.specs.Prelude.{ℕ, List}
use Rattle.cd_tokens.specs.Token.{Token}

-- the tokens, and the slots of the names that they use, in order
pub record Filling : Type 0 where
  pub tokens : List Token
  pub names : List ℕ
