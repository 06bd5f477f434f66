use Rattle.cd_part.proofs.PartLaws as laws
use Rattle.cd_part.proofs.laws.one_part.Goals as goal

pub returns : goal.returns
returns c = laws.one_part
