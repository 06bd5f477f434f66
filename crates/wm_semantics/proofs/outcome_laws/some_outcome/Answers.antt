use Rattle.wm_semantics.proofs.Total.{reaches_total, invokes_total}
use Rattle.wm_semantics.proofs.outcome_laws.some_outcome.Goals as goal

pub returns-clause-runs : goal.returns-clause-runs
returns-clause-runs g c = reaches_total

pub returns-clause-targets : goal.returns-clause-targets
returns-clause-targets g c = invokes_total
