use Rattle.std.proofs.Common.{◌≡◌, ◌++◌, take}
use Rattle.cd_tokens.specs.Placed.{placed_views}
use Rattle.cd_tokens.specs.View.{token_views}
use Rattle.ct_names.specs.Exchange.{places, all_at}
use Rattle.ct_names.proofs.exchanging.push_all.Given as goal

-- the tokens before are added
abbrev pub invariant-loop-token : goal.invariant-loop-token
invariant-loop-token l = record {
  tokens : placed_views l.out.items ≡ placed_views l.fn.out.items ++ token_views (take l.token-index l.tokens);
  places : places l.out.items ≡ places l.fn.out.items ++ all_at l.place (token_views (take l.token-index l.tokens));
}
