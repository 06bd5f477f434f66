use Rattle.cd_coerce.proofs.ResultLemmas.{results_typed}
use Rattle.cd_coerce.proofs.laws.decoded_has_the_types.Goals as goal

pub returns : goal.returns
returns c = results_typed
