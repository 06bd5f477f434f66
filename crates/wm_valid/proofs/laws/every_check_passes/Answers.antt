use Rattle.wm_valid.proofs.EveryCheck.{passes_of_checked, checked_of_passes}
use Rattle.wm_valid.proofs.laws.every_check_passes.Goals as goal

pub returns-clause-each : goal.returns-clause-each
returns-clause-each c = passes_of_checked

pub returns-clause-all : goal.returns-clause-all
returns-clause-all c = checked_of_passes
