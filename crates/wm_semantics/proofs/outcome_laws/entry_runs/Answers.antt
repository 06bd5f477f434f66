use Rattle.wm_semantics.proofs.Entries.{entry_total}
use Rattle.wm_semantics.proofs.outcome_laws.entry_runs.Goals as goal

pub returns : goal.returns
returns g c reply rises m s target h limit spent = entry_total reply rises m s target h limit spent
