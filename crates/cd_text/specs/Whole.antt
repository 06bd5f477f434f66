-- The text of a list of values at expected types (Candid specification, "Core Grammar", arguments).
use Rattle.std.specs.Prelude.{◌≡◌, ℕ, suc, true, false, ◌≤◌, List, ◌∷◌, length, map, Some, slice_get}
use Rattle.std.specs.Str.{is_utf8}
use Rattle.cd_types.specs.declared.entry.TyRef.{TyRef}
use Rattle.cd_types.specs.declared.entry.Entry.{Entry}
use Rattle.cd_codec.specs.Content.{Content}
use Rattle.cd_codec.specs.Measure.{number_each}
use Rattle.cd_tokens.specs.Token.{Token}
use Rattle.cd_tokens.specs.Lexed.{IsTokens}
use Rattle.cd_text.specs.Words.{opening, closing, comma}
use Rattle.cd_text.specs.Said.{SaysParts, Annotated, Says}

-- an argument and its place
abbrev pub SaysArgument : List Entry → List TyRef → ℕ → ℕ × Content → List Token → Type 0
SaysArgument table types place x tokens = (x.0 ≡ place) × (type : TyRef) × (slice_get types place ≡ Some type) × Annotated type (Says table 128 type x.1) tokens

-- the text says the values, one at each type. Nesting 128, parentheses counted, and 1,000,000 values are limits of this replica, not of Candid
pub record Said (table : List Entry) (types : List TyRef) (values : List Content) (text : List ℕ) : Type 0 where
  pub tokens : List Token
  pub arguments : List (ℕ × Content)
  pub utf8 : is_utf8 text ≡ true
  pub lexed : IsTokens false (opening ∷ tokens) text
  pub said : SaysParts comma closing (SaysArgument table types) (λ x. suc x.0) 0 arguments tokens
  pub all : length arguments ≡ length types
  pub are : map (λ x. x.1) arguments ≡ values
  pub many : number_each values ≤ 1000000

-- the tokens say the values, one at each type, with parentheses around them, as those of a text that is `Said` do
pub record SaysArguments (table : List Entry) (types : List TyRef) (values : List Content) (tokens : List Token) : Type 0 where
  pub inner : List Token
  pub arguments : List (ℕ × Content)
  pub whole : tokens ≡ opening ∷ inner
  pub said : SaysParts comma closing (SaysArgument table types) (λ x. suc x.0) 0 arguments inner
  pub all : length arguments ≡ length types
  pub are : map (λ x. x.1) arguments ≡ values
  pub many : number_each values ≤ 1000000
