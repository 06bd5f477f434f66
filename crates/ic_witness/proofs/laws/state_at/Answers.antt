use Rattle.ic_witness.proofs.Depths.{state_alike}
use Rattle.ic_witness.proofs.laws.state_at.Goals as goal

pub returns : goal.returns
returns c = state_alike
