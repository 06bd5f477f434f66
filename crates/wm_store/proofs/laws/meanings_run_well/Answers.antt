use Rattle.wm_store.proofs.MeaningTable.{meaning_runs_well}
use Rattle.wm_store.proofs.laws.meanings_run_well.Goals as goal

pub returns : goal.returns
returns c = meaning_runs_well
