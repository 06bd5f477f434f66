use Rattle.cd_sub.proofs.DecidedLemmas.{below_is}
use Rattle.cd_sub.proofs.laws.decided.Goals as goal

pub returns : goal.returns
returns c = below_is
