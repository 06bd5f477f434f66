use Rattle.cd_sub.proofs.DecidedLemmas.{sub_rule}
use Rattle.cd_sub.proofs.laws.by_a_rule.Goals as goal

pub returns : goal.returns
returns c = sub_rule
