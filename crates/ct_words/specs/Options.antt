-- What the words of the command line ask for.
use Rattle.std.specs.Prelude.{ℕ, ◌≤◌, List, [], ◌∷◌, ◌++◌, Bool, false, Option, Some, None, if◌then◌else◌, codes, unwrap_or}
use Rattle.std.specs.Str.{bytes_eq}
use Rattle.clap.specs.Takes.{takes}
use Rattle.clap.specs.Simple.{matches_of}
use Rattle.clap.specs.Walk.{Row, Text, all_of, first_of}
use Rattle.ic_options.specs.Options.{number_in}
use Rattle.ct_words.specs.declared.Choice.{Choice}
use Rattle.ct_words.specs.declared.Choice.TheVariants.{All, Only, Script, Picture}
use Rattle.ct_words.specs.declared.TestOptions.{TestOptions}
use Rattle.ct_words.specs.Command.{command}

-- which tests are wanted: `--only`, `--script` and `--picture` exclude each other
abbrev pub choice_of : (only script picture : Option Text) → Option Choice
choice_of None None None = Some All
choice_of (Some part) None None = Some (Only part)
choice_of None (Some name) None = Some (Script name)
choice_of None None (Some name) = Some (Picture name)
choice_of _ _ _ = None

-- a flag has the text "true" where it is set
abbrev pub is_set : Option Text → Bool
is_set None = false
is_set (Some text) = bytes_eq text (codes "true")

-- options are given by numbers, a flag, a choice that can be made, and names of files
abbrev pub given_options : (limit price states : ℕ) → (trace : Bool) → Option Choice → Option (List Text) → Option TestOptions
given_options limit price states trace (Some choice) (Some files) =
    Some (record { limit = limit; price = price; states = states; trace = trace; choice = choice; files = files })
given_options limit price states trace _ _ = None

-- an option that has a default has a number in any case
abbrev pub options_in : List Row → Option TestOptions
options_in rows = given_options
    (unwrap_or (number_in (codes "limit") rows) 50000000)
    (unwrap_or (number_in (codes "price") rows) 0)
    (unwrap_or (number_in (codes "states") rows) 20000)
    (is_set (first_of (codes "trace") rows))
    (choice_of (first_of (codes "only") rows) (first_of (codes "script") rows) (first_of (codes "picture") rows))
    (all_of (codes "files") rows)

-- the options that the words give, where the command takes them
unfoldable pub options_of : List Text → Option TestOptions
options_of words = if takes command words then options_in (matches_of command words) else None

-- each number lies within the bounds of its option
pub record HasBounds (options : TestOptions) : Type 0 where
  pub limit : (1 ≤ options.limit) × (options.limit ≤ 1000000000000)
  pub price : options.price ≤ 1000000
  pub states : (1 ≤ options.states) × (options.states ≤ 1000000)

-- what is printed for refused words
unfoldable pub usage_text : List ℕ
usage_text = codes "usage: canister_test [--limit N] [--price N] [--states N] [--trace] [--only TEXT | --script NAME | --picture NAME] FILE.." ++ 10 ∷ []
