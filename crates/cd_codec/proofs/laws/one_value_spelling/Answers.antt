use Rattle.cd_codec.proofs.ValueAgain.{one_value}
use Rattle.cd_codec.proofs.laws.one_value_spelling.Goals as goal

pub returns : goal.returns
returns c = one_value
