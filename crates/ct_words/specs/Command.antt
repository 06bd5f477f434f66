-- The command line, in the words in which `clap` describes commands.
use Rattle.std.specs.Prelude.{Some, codes, true}
use Rattle.clap.specs.Lexer.{usize_max}
use Rattle.clap.specs.Simple.{App, new_app, new_rule, with_rule}
use Rattle.clap.specs.Walk.{Rule, Text}
use Rattle.clap.specs.declared.builder.action.ArgAction.TheVariants.{SetTrue}
use Rattle.ic_options.specs.Command.{default_rule, limit_rule, price_rule}

abbrev pub states_rule : Rule
states_rule = default_rule (codes "states") 1 1000000 (codes "20000")

-- an option of this name that takes a text
abbrev pub text_rule : Text → Rule
text_rule name = record (new_rule name) { long = Some name }

-- an option of this name that is there or not
abbrev pub flag_rule : Text → Rule
flag_rule name = record (new_rule name) { long = Some name; action = Some SetTrue }

-- the words that are no options: one at least
abbrev pub files_rule : Rule
files_rule = record (new_rule (codes "files")) { range = Some (record { start_inclusive = 1; end_inclusive = usize_max }); required = true }

abbrev pub command : App
command =
    with_rule (with_rule (with_rule (with_rule (with_rule (with_rule (with_rule (with_rule (new_app (codes "canister_test"))
    limit_rule) price_rule) states_rule) (text_rule (codes "only"))) (text_rule (codes "script"))) (text_rule (codes "picture"))) (flag_rule (codes "trace"))) files_rule
