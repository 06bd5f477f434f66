use Rattle.ic_run_laws.proofs.Delivers.{as_absent_keeps}
use Rattle.ic_run_laws.proofs.laws.absent_keeps.Goals as goal

pub returns : goal.returns
returns c = record { kept = as_absent_keeps }
