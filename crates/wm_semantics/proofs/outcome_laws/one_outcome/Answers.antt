use Rattle.wm_semantics.proofs.Unique.{reaches_once, invokes_once}
use Rattle.wm_semantics.proofs.outcome_laws.one_outcome.Goals as goal

pub returns-clause-runs : goal.returns-clause-runs
returns-clause-runs g c functional m limit s o p = reaches_once g.H.Host.answers functional

pub returns-clause-targets : goal.returns-clause-targets
returns-clause-targets g c functional = invokes_once g.H.Host.answers functional
