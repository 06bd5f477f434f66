-- What the words of the command line ask for.
use Rattle.std.specs.Prelude.{ℕ, ◌≤◌, List, [], ◌∷◌, ◌++◌, Option, Some, None, IfSome, if◌then◌else◌, codes, option_map, unwrap_or}
use Rattle.std.specs.Str.Parse.{digits_value, without_leading_plus}
use Rattle.clap.specs.Takes.{takes}
use Rattle.clap.specs.Simple.{matches_of}
use Rattle.clap.specs.Walk.{Row, Text, one_of}
use Rattle.ic_options.specs.declared.Options.{Options}
use Rattle.ic_options.specs.Command.{command}

-- the number that the option of this name was given, or that stands for it where it was left out
abbrev pub number_in : Text → List Row → Option ℕ
number_in name rows = option_map (λ text. digits_value 10 (without_leading_plus text)) (one_of name rows)

-- an option that has a default has a number in any case
abbrev pub options_in : List Row → Options
options_in rows = record {
  limit = unwrap_or (number_in (codes "limit") rows) 50000000;
  rounds = unwrap_or (number_in (codes "rounds") rows) 100000;
  workers = unwrap_or (number_in (codes "workers") rows) 1;
  price = unwrap_or (number_in (codes "price") rows) 0;
  generate = number_in (codes "generate") rows;
}

-- the options that the words give, where the command takes them
unfoldable pub options_of : List Text → Option Options
options_of words = if takes command words then Some (options_in (matches_of command words)) else None

-- each number lies within the bounds of its option
pub record HasBounds (options : Options) : Type 0 where
  pub limit : (1 ≤ options.limit) × (options.limit ≤ 1000000000000)
  pub rounds : (1 ≤ options.rounds) × (options.rounds ≤ 1000000)
  pub workers : (1 ≤ options.workers) × (options.workers ≤ 64)
  pub price : options.price ≤ 1000000
  pub generate : IfSome options.generate (λ n. n ≤ 10000)

-- what is printed for refused words
unfoldable pub usage_text : List ℕ
usage_text = codes "usage: replica [--workers 1..64] [--limit N] [--rounds N] [--generate N] [--price N]" ++ 10 ∷ []
