use Rattle.ic_behaviour.proofs.RunLaws.{any_run}
use Rattle.ic_behaviour.proofs.runs.any_order.Goals as goal

pub returns : goal.returns
returns c = any_run
