use Rattle.cd_codec.proofs.ValueAgain.{values_again}
use Rattle.cd_codec.proofs.ValueTakes.{values_found}
use Rattle.cd_codec.proofs.laws.values_read.Goals as goal

pub returns : goal.returns
returns c = λ table types values bytes. (values_found table types bytes values, values_again table types values bytes)
