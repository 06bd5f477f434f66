-- The tokens that tokens of the program are.
use Rattle.std.specs.Prelude.{List, map}
use Rattle.cd_tokens.specs.Token.{Token, run, quoted, mark, arrow}
use Rattle.cd_tokens.specs.declared.token.Token.{Token as Held}
use Rattle.cd_tokens.specs.declared.token.Token.TheVariants as held

abbrev pub token_view : Held → Token
token_view (held.Run r) = run r
token_view (held.Quoted s) = quoted s
token_view (held.Mark m) = mark m
token_view held.Arrow = arrow

abbrev pub token_views : List Held → List Token
token_views tokens = map token_view tokens
