use Rattle.std.proofs.Common.{◌≡◌, take}
use Rattle.cd_tokens.specs.Placed.{placed_views}
use Rattle.cd_tokens.specs.View.{token_views}
use Rattle.ct_outcomes.proofs.filling.without_places.Given as goal

abbrev pub invariant-loop-one : goal.invariant-loop-one
invariant-loop-one l = token_views l.tokens.items ≡ placed_views (take l.one-index l.placed)
