use Rattle.cd_text.proofs.Arguments.{one_said}
use Rattle.cd_text.proofs.laws.one_said.Goals as goal

pub returns : goal.returns
returns c = one_said
