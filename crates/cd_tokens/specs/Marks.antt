-- The marks of Candid's textual formats, as tokens (Candid specification, "Core Grammar").
use Rattle.cd_tokens.specs.Token.{Token, mark}

abbrev pub opening : Token
opening = mark 40

abbrev pub closing : Token
closing = mark 41

abbrev pub comma : Token
comma = mark 44

abbrev pub dot : Token
dot = mark 46

abbrev pub colon : Token
colon = mark 58

abbrev pub semicolon : Token
semicolon = mark 59

abbrev pub equals : Token
equals = mark 61

abbrev pub open_brace : Token
open_brace = mark 123

abbrev pub close_brace : Token
close_brace = mark 125
