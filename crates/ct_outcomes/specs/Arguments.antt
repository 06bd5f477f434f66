-- Arguments of messages: what is filled in, with what the names stand for in its place, at the types of the method.
use Rattle.std.specs.Prelude.{◌≡◌, ◌≤◌, ℕ, true, List, [], ◌∷◌, ◌++◌, length, Option, Some, None, IsTrue}
use Rattle.cd_types.specs.IsTable.{is_table}
use Rattle.cd_codec.specs.Content.{Content}
use Rattle.cd_codec.specs.IsHeader.{are_inside}
use Rattle.cd_codec.specs.Message.{message_spelling}
use Rattle.cd_part.specs.IsPart.{IsPart}
use Rattle.cd_text.specs.Words.{opening, closing}
use Rattle.cd_text.specs.Whole.{SaysArguments}
use Rattle.cd_tokens.specs.Token.{Token}
use Rattle.ct_check.specs.Filling.{Filling}
use Rattle.ct_outcomes.specs.declared.named.Named.{Named}
use Rattle.ct_outcomes.specs.Types.{Types}
use Rattle.ct_outcomes.specs.Standings.{IsFilledIn}

abbrev pub in_parentheses : List Token → List Token
in_parentheses tokens = opening ∷ (tokens ++ closing ∷ [])

-- the part has the entries alone that the types need. A message has a well-formed table, types inside it, and at most 10,000 types of arguments, a limit of this replica
pub record IsNeeded (types part : Types) : Type 0 where
  pub entries : IsPart types.0 types.1 part
  pub well_formed : IsTrue (is_table types.0)
  pub inside : are_inside (length types.0) types.1 ≡ true
  pub few : length types.1 ≤ 10000

-- the bytes are the message of the values that the tokens say at the types, with the part of the table that these need
pub record IsMessageOf (types : Types) (tokens : List Token) (bytes : List ℕ) : Type 0 where
  pub part : Types
  pub values : List Content
  pub needed : IsNeeded types part
  pub said : SaysArguments part.0 part.1 values (in_parentheses tokens)
  pub written : bytes ≡ message_spelling part.0 part.1 values

-- the bytes are the argument that is filled in; an installation whose arguments are left out has none
abbrev pub IsArgument : Types → List Named → Option Filling → List ℕ → Type 0
IsArgument types names None bytes = IsMessageOf types [] bytes
IsArgument types names (Some filling) bytes = (tokens : List Token) × IsFilledIn names filling tokens × IsMessageOf types tokens bytes
