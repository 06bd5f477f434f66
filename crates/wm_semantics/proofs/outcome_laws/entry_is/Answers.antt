use Rattle.wm_semantics.proofs.Entries.{entry_by_function}
use Rattle.wm_semantics.proofs.outcome_laws.entry_is.Goals as goal

pub returns : goal.returns
returns g c reply rises agrees = entry_by_function g.H.Host.answers reply rises agrees
