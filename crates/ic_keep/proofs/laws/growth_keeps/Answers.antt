use Rattle.ic_keep.proofs.Stays.{kept_stays}
use Rattle.ic_keep.proofs.laws.growth_keeps.Goals as goal

pub returns : goal.returns
returns c = λ t u grows k is. kept_stays t u grows k is
