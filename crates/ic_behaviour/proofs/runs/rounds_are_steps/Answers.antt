use Rattle.ic_behaviour.proofs.Ties.{tallied}
use Rattle.ic_behaviour.proofs.Chains.{round_eligible}
use Rattle.ic_behaviour.proofs.SomeTurn.{round_some}
use Rattle.ic_behaviour.proofs.runs.rounds_are_steps.Goals as goal

pub returns-clause-eligible : goal.returns-clause-eligible
returns-clause-eligible c = λ rules s sound. round_eligible rules s (tallied s sound).rises

pub returns-clause-some : goal.returns-clause-some
returns-clause-some c = λ rules s m ms is none. round_some rules s m ms is none
