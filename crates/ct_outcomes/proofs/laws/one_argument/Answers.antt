use Rattle.ct_outcomes.proofs.Once.{one_argument}
use Rattle.ct_outcomes.proofs.laws.one_argument.Goals as goal

pub returns : goal.returns
returns c = one_argument
