use Rattle.std.proofs.Common.{◌≡◌, ◌∷◌, take}
use Rattle.cd_tokens.specs.View.{token_views}
use Rattle.cd_text.specs.Words.{opening}
use Rattle.ct_outcomes.proofs.message.in_parentheses.Given as goal

abbrev pub invariant-loop-token : goal.invariant-loop-token
invariant-loop-token l = token_views l.whole.items ≡ opening ∷ token_views (take l.token-index l.tokens)
