use Rattle.ic_witness.proofs.Depths.{state_stands}
use Rattle.ic_witness.proofs.laws.state_stands.Goals as goal

pub returns : goal.returns
returns c = state_stands
