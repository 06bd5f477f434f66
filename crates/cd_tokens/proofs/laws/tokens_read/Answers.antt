use Rattle.cd_tokens.proofs.Streams.{tokens_again, tokens_take}
use Rattle.cd_tokens.proofs.laws.tokens_read.Goals as goal

pub returns : goal.returns
returns c = λ comments tokens text. (tokens_take comments text tokens, tokens_again comments text tokens)
