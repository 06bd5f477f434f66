-- Tokens with their places in a text.
use Rattle.std.specs.Prelude.{ℕ, Bool, nat_lt, List, length, map}
use Rattle.std.specs.List.{list_all}
use Rattle.cd_tokens.specs.Token.{Token}
use Rattle.cd_tokens.specs.View.{token_view}
use Rattle.cd_tokens.specs.declared.placed.PlacedToken.{PlacedToken}

-- the tokens alone
abbrev pub placed_view : PlacedToken → Token
placed_view placed = token_view placed.token

abbrev pub placed_views : List PlacedToken → List Token
placed_views tokens = map placed_view tokens

-- each token begins within the text
abbrev pub is_within : List ℕ → PlacedToken → Bool
is_within text placed = nat_lt placed.place (length text)

abbrev pub are_within : List ℕ → List PlacedToken → Bool
are_within text tokens = list_all (is_within text) tokens
