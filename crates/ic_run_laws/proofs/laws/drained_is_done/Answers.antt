use Rattle.ic_behaviour.proofs.Ties.{tallied}
use Rattle.ic_run_laws.proofs.Drains.{drained_done}
use Rattle.ic_run_laws.proofs.laws.drained_is_done.Goals as goal

pub returns : goal.returns
returns c = record { done = λ s is drained. drained_done s (tallied s is) drained }
