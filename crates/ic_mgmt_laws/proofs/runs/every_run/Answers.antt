use Rattle.ic_behaviour.proofs.Ties.{tallied}
use Rattle.ic_behaviour.specs.Runs.{last_state}
use Rattle.ic_run_laws.proofs.Drains.{drained_done}
use Rattle.ic_run_laws.proofs.Histories.{run_sound}
use Rattle.ic_mgmt_laws.specs.Managed.{managed_rules}
use Rattle.ic_mgmt_laws.proofs.Managed.{managed_keep}
use Rattle.ic_mgmt_laws.proofs.runs.every_run.Goals as goal

pub returns-clause-rules : goal.returns-clause-rules
returns-clause-rules c = λ limit price. managed_keep limit price

pub returns-clause-sound : goal.returns-clause-sound
returns-clause-sound c = λ limit price acts run. run_sound (managed_rules limit price) (managed_keep limit price) acts run

pub returns-clause-cycles : goal.returns-clause-cycles
returns-clause-cycles c = λ limit price acts run. (run_sound (managed_rules limit price) (managed_keep limit price) acts run).cycles.conserved

pub returns-clause-done : goal.returns-clause-done
returns-clause-done c = λ limit price acts run drained.
    drained_done (last_state (managed_rules limit price) acts) (tallied (last_state (managed_rules limit price) acts) (run_sound (managed_rules limit price) (managed_keep limit price) acts run)) drained
