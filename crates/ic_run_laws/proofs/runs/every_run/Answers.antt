use Rattle.ic_behaviour.proofs.Ties.{tallied}
use Rattle.ic_behaviour.specs.Submitted.{empty}
use Rattle.ic_behaviour.specs.Runs.{HasMessage, last_state}
use Rattle.ic_run_laws.proofs.Drains.{drained_done}
use Rattle.ic_run_laws.proofs.Histories.{allowed_parts, run_sound}
use Rattle.ic_run_laws.proofs.runs.every_run.Goals as goal

pub returns-clause-begun : goal.returns-clause-begun
returns-clause-begun c = λ rules front back run. (allowed_parts rules HasMessage empty front back run).0

pub returns-clause-sound : goal.returns-clause-sound
returns-clause-sound c = λ rules acts keep run. run_sound rules keep acts run

pub returns-clause-cycles : goal.returns-clause-cycles
returns-clause-cycles c = λ rules acts keep run. (run_sound rules keep acts run).cycles.conserved

pub returns-clause-done : goal.returns-clause-done
returns-clause-done c = λ rules acts keep run drained. drained_done (last_state rules acts) (tallied (last_state rules acts) (run_sound rules keep acts run)) drained
