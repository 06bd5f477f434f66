use Rattle.cd_text.proofs.Arguments.{values_take, values_again}
use Rattle.cd_text.proofs.laws.values_read.Goals as goal

pub returns : goal.returns
returns c = λ table types values text formed. (values_take table types values text formed, values_again table types values text formed)
