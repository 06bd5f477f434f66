use Rattle.ic_behaviour.proofs.Ties.{tallied, sound}
use Rattle.ic_behaviour.proofs.laws.sound_by_totals.Goals as goal

pub returns-clause-totals : goal.returns-clause-totals
returns-clause-totals c = λ s is. tallied s is

pub returns-clause-sound : goal.returns-clause-sound
returns-clause-sound c = λ s is. sound s is
