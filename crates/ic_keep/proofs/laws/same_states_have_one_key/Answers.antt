use Rattle.ic_keep.proofs.Keys.{one_key}
use Rattle.ic_keep.proofs.laws.same_states_have_one_key.Goals as goal

pub returns : goal.returns
returns c = one_key
