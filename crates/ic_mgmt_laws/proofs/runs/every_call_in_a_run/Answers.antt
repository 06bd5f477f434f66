use Rattle.ic_run_laws.proofs.Histories.{run_consecutive, run_ends, run_answered}
use Rattle.ic_mgmt_laws.specs.Managed.{managed_rules}
use Rattle.ic_mgmt_laws.proofs.Managed.{managed_keep}
use Rattle.ic_mgmt_laws.proofs.runs.every_call_in_a_run.Goals as goal

pub returns-clause-consecutive : goal.returns-clause-consecutive
returns-clause-consecutive c = λ limit price front middle back id run first last. run_consecutive (managed_rules limit price) (managed_keep limit price) front middle back id run first last

pub returns-clause-ends : goal.returns-clause-ends
returns-clause-ends c = λ limit price acts act id run first last. run_ends (managed_rules limit price) (managed_keep limit price) acts act id run first last

pub returns-clause-answered_once : goal.returns-clause-answered_once
returns-clause-answered_once c = λ limit price front back place id run answers. run_answered (managed_rules limit price) (managed_keep limit price) front back place id run answers
