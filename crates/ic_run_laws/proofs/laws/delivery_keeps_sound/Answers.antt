use Rattle.ic_behaviour.proofs.Ties.{tallied}
use Rattle.ic_run_laws.proofs.Delivers.{deliver_advances, deliver_sound}
use Rattle.ic_run_laws.proofs.laws.delivery_keeps_sound.Goals as goal

pub returns-clause-sound : goal.returns-clause-sound
returns-clause-sound c = λ enters outside limit price s place keeps out is. deliver_sound enters keeps outside out limit price s place (tallied s is)

pub returns-clause-advances : goal.returns-clause-advances
returns-clause-advances c = λ enters outside limit price s place m keeps out is is_m. deliver_advances enters keeps outside out limit price s place (tallied s is) m is_m
