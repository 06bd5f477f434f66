-- What the lemmas over commands ask of this one.
use Rattle.std.proofs.Common.{◌≡◌, arith, codes, refl, true}
use Rattle.std.specs.List.{list_all}
use Rattle.clap.specs.Faults.{is_simple_and_free}
use Rattle.clap.specs.Walk.{Rule}
use Rattle.clap.proofs.OnLiterals.{clap_on_literals}
use Rattle.ic_options.proofs.Exact.{IsPlainLeaf}
use Rattle.ic_options.proofs.Numbers.{IsNumber, only_place}
use Rattle.ic_options.specs.Command.{limit_rule, price_rule}
use Rattle.ct_words.specs.Command.{command, states_rule}

pub limit_option : IsNumber command limit_rule 0 1 1000000000000
limit_option = record { place = omega arith; rule = λ e. refl; parser = refl; named = refl; not_help = refl; not_version = refl; unique = only_place 0 (codes "limit") command.top.rules refl }

pub price_option : IsNumber command price_rule 1 0 1000000
price_option = record { place = omega arith; rule = λ e. refl; parser = refl; named = refl; not_help = refl; not_version = refl; unique = only_place 1 (codes "price") command.top.rules refl }

pub states_option : IsNumber command states_rule 2 1 1000000
states_option = record { place = omega arith; rule = λ e. refl; parser = refl; named = refl; not_help = refl; not_version = refl; unique = only_place 2 (codes "states") command.top.rules refl }

pub has_simple_rules : list_all (λ (r : Rule). r.is_simple) command.top.rules ≡ true
has_simple_rules = refl

pub is_free : is_simple_and_free command ≡ true
unfolding clap_on_literals
is_free = refl

pub is_plain_leaf : IsPlainLeaf command
unfolding clap_on_literals
is_plain_leaf = record { simple = refl; leaf = refl; defaults = refl; free = refl }
