use Rattle.std.proofs.Common.{length}
use Rattle.cd_tokens.specs.View.{token_views}
use Rattle.cd_tokens.proofs.Streams.{Read}
use Rattle.cd_tokens.proofs.token.tokens_of.Given as goal

abbrev pub invariant-loop-rest : goal.invariant-loop-rest
invariant-loop-rest l = Read l.comments (token_views l.tokens.items) l.rest l.text

abbrev pub decreases-loop-rest : goal.decreases-loop-rest
decreases-loop-rest l = length l.rest
