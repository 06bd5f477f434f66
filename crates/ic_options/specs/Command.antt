-- The command line, in the words in which `clap` describes commands.
use Rattle.std.specs.Prelude.{ℕ, [], ◌∷◌, Some, codes}
use Rattle.clap.specs.Simple.{App, new_app, new_rule, with_rule}
use Rattle.clap.specs.Walk.{Rule, Text}
use Rattle.clap.specs.declared.builder.value_parser.ValueParser.TheVariants.{Unsigned}

-- an option of this name that takes a number from low to high
abbrev pub number_rule : Text → (low high : ℕ) → Rule
number_rule name low high = record (new_rule name) { long = Some name; parser = Some (Unsigned low high) }

-- the same, with the text that stands for an option left out
abbrev pub default_rule : Text → (low high : ℕ) → Text → Rule
default_rule name low high default = record (number_rule name low high) { defaults = default ∷ [] }

abbrev pub workers_rule : Rule
workers_rule = default_rule (codes "workers") 1 64 (codes "1")

abbrev pub limit_rule : Rule
limit_rule = default_rule (codes "limit") 1 1000000000000 (codes "50000000")

abbrev pub rounds_rule : Rule
rounds_rule = default_rule (codes "rounds") 1 1000000 (codes "100000")

abbrev pub generate_rule : Rule
generate_rule = number_rule (codes "generate") 0 10000

abbrev pub price_rule : Rule
price_rule = default_rule (codes "price") 0 1000000 (codes "0")

abbrev pub command : App
command =
    with_rule (with_rule (with_rule (with_rule (with_rule (new_app (codes "replica")) workers_rule) limit_rule) rounds_rule) generate_rule) price_rule
