use Rattle.ct_orders.proofs.WaysRun.{ways_are_runs}
use Rattle.ct_orders.proofs.laws.ways_are_runs.Goals as goal

pub returns : goal.returns
returns c = λ setting steps s names left order comes. ways_are_runs setting steps s names left order comes
