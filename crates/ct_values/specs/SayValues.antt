-- What the tokens between parentheses say (Candid specification, "Core Grammar", arguments), and patterns that are met by one list of values.
use Rattle.std.specs.Prelude.{◌≡◌, ℕ, suc, ◌≤◌, List, [], ◌∷◌, ◌++◌, length, map}
use Rattle.cd_types.specs.declared.entry.TyRef.{TyRef}
use Rattle.cd_types.specs.declared.entry.Entry.{Entry}
use Rattle.cd_codec.specs.Content.{Content}
use Rattle.cd_codec.specs.Measure.{number_each}
use Rattle.cd_tokens.specs.Token.{Token}
use Rattle.cd_text.specs.Words.{closing, comma}
use Rattle.cd_text.specs.Said.{SaysParts}
use Rattle.cd_text.specs.Whole.{SaysArgument}
use Rattle.ct_patterns.specs.declared.step.Step.{Step as Held}
use Rattle.ct_patterns.specs.Meets.{Meets}
use Rattle.ct_values.specs.Steps.{Step, step_views}

-- the tokens say the values, one at each type, as those of a text that is `Said` do
pub record SayValues (table : List Entry) (types : List TyRef) (values : List Content) (tokens : List Token) : Type 0 where
  pub arguments : List (ℕ × Content)
  pub said : SaysParts comma closing (SaysArgument table types) (λ x. suc x.0) 0 arguments (tokens ++ closing ∷ [])
  pub all : length arguments ≡ length types
  pub are : map (λ x. x.1) arguments ≡ values
  pub many : number_each values ≤ 1000000

-- the values meet the pattern, which binds nothing
abbrev pub AreMetBy : List Content → List Step → Type 0
AreMetBy values steps = (pattern : List Held) → step_views pattern ≡ steps → Meets pattern values []
