use Rattle.std.proofs.Common.{◌≡◌, ℕ, drop}
use Rattle.std.specs.BTreeSet.{contains}
use Rattle.std.specs.Option.{option_or}
use Rattle.std.specs.Ordering.{nat_cmp}
use Rattle.cd_tokens.specs.View.{token_views}
use Rattle.cd_names.specs.Names.{name_for, named}
use Rattle.cd_names.proofs.reading.add_tokens.Given as goal

-- the names that there are, and else those of the tokens that are left
abbrev pub invariant-loop-token : goal.invariant-loop-token
invariant-loop-token l = (id : ℕ) → option_or (name_for l.names id) (named (contains nat_cmp l.ids) (token_views (drop l.token-index l.tokens)) id) ≡ named (contains nat_cmp l.ids) (token_views l.tokens) id
