use Rattle.ic_behaviour.proofs.Ties.{tallied}
use Rattle.ic_mgmt_laws.proofs.Arrives.{stays}
use Rattle.ic_mgmt_laws.proofs.Stays.{nothing_shut}
use Rattle.ic_mgmt_laws.proofs.Chains.{restarts, empties}
use Rattle.ic_mgmt_laws.proofs.laws.chains_keep_calls.Goals as goal

pub returns-clause-restarted : goal.returns-clause-restarted
returns-clause-restarted c = λ s id v response sound found. restarts s (tallied s sound) id v found response (stays s sound)

pub returns-clause-emptied : goal.returns-clause-emptied
returns-clause-emptied c = λ s id v response sound found. empties s (tallied s sound) id v found response (stays s sound)

pub returns-clause-shut : goal.returns-clause-shut
returns-clause-shut c = λ now s id v sound found counts. nothing_shut s (tallied s sound) id v found now counts
