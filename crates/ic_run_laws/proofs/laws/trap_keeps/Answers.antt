use Rattle.ic_run_laws.proofs.Trapped.{trap_keeps}
use Rattle.ic_run_laws.proofs.laws.trap_keeps.Goals as goal

pub returns : goal.returns
returns c = record { kept = λ enters env v m is. trap_keeps enters env v m is }
