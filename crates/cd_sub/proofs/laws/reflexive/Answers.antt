use Rattle.cd_sub.proofs.ReflexiveLemmas.{sub_itself}
use Rattle.cd_sub.proofs.laws.reflexive.Goals as goal

pub returns : goal.returns
returns c = sub_itself
