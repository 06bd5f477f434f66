use Rattle.ct_run.proofs.Acts.{runs_are_runs}
use Rattle.ct_run.proofs.laws.tests_are_runs.Goals as goal

pub returns : goal.returns
returns c = runs_are_runs
