use Rattle.cd_sub.proofs.GreatestLemmas.{within_sub}
use Rattle.cd_sub.proofs.laws.greatest.Goals as goal

pub returns : goal.returns
returns c = within_sub
