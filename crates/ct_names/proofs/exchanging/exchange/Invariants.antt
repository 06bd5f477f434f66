use Rattle.std.proofs.Common.{◌≡◌, ◌≤◌, ◌++◌, drop}
use Rattle.cd_tokens.specs.Placed.{placed_views}
use Rattle.ct_names.specs.Exchange.{exchanged_by_from, exchanged_by, places, places_by_from, exchanged_places_by}
use Rattle.ct_names.proofs.exchanging.exchange.Given as goal

-- what is read of the tokens before, and of those that are left with the meanings that are left
abbrev pub invariant-loop-index : goal.invariant-loop-index
invariant-loop-index l = record {
  few : l.used ≤ l.index;
  tokens : placed_views l.read.items ++ exchanged_by_from (drop l.used l.meanings) l.before (placed_views (drop l.index l.tokens)) ≡ exchanged_by l.meanings (placed_views l.tokens);
  places : places l.read.items ++ places_by_from (drop l.used l.meanings) l.before (drop l.index l.tokens) ≡ exchanged_places_by l.meanings l.tokens;
}
