use Rattle.ic_run_laws.proofs.Histories.{run_consecutive, run_ends, run_answered}
use Rattle.ic_run_laws.proofs.runs.every_call_in_a_run.Goals as goal

pub returns-clause-consecutive : goal.returns-clause-consecutive
returns-clause-consecutive c = λ rules front middle back id keep run first last. run_consecutive rules keep front middle back id run first last

pub returns-clause-ends : goal.returns-clause-ends
returns-clause-ends c = λ rules acts act id keep run first last. run_ends rules keep acts act id run first last

pub returns-clause-answered_once : goal.returns-clause-answered_once
returns-clause-answered_once c = λ rules front back place id keep run answers. run_answered rules keep front back place id run answers
