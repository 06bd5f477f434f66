use Rattle.wm_semantics.proofs.ByFuel.{fuel_reaches, fuel_invokes}
use Rattle.wm_semantics.proofs.outcome_laws.fuel_reaches.Goals as goal

pub returns-clause-runs : goal.returns-clause-runs
returns-clause-runs g c = fuel_reaches

pub returns-clause-targets : goal.returns-clause-targets
returns-clause-targets g c = fuel_invokes
