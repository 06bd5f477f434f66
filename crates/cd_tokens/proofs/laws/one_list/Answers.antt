use Rattle.cd_tokens.proofs.Streams.{one_list}
use Rattle.cd_tokens.proofs.laws.one_list.Goals as goal

pub returns : goal.returns
returns c = one_list
