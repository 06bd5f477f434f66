-- The tokens of a text, as a function that reads them.
use Rattle.std.specs.Prelude.{ℕ, zero, suc, Bool, List, [], ◌∷◌, length, Option, Some, None}
use Rattle.ic_base.specs.Reader.{◌>>=◌}
use Rattle.cd_tokens.specs.Token.{Token}
use Rattle.cd_tokens.specs.ReadGap.{past_gap}
use Rattle.cd_tokens.specs.ReadToken.{token_at}

-- the tokens of bytes that begin with no gap, fewer than `fuel`
unfoldable pub tokens_from : Bool → ℕ → List ℕ → Option (List Token)
tokens_from comments zero bytes = None
tokens_from comments (suc fuel) [] = Some []
tokens_from comments (suc fuel) (b ∷ bytes) = do
  x ← token_at (b ∷ bytes)
  rest ← past_gap comments x.1
  tokens ← tokens_from comments fuel rest
  Some (x.0 ∷ tokens)

-- the tokens of a text
unfoldable pub tokens_of : Bool → List ℕ → Option (List Token)
tokens_of comments text = past_gap comments text >>= λ rest. tokens_from comments (suc (length rest)) rest
