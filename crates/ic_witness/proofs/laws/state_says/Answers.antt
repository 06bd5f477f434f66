use Rattle.ic_witness.proofs.StateSays.{state_says}
use Rattle.ic_witness.proofs.laws.state_says.Goals as goal

pub returns : goal.returns
returns c = state_says
