use Rattle.std.proofs.Common.{refl}
use Rattle.ic_behaviour.proofs.Ties.{tallied}
use Rattle.ic_behaviour.proofs.Changes.{submitted_counts, added_counts}
use Rattle.ic_behaviour.proofs.laws.changes_keep_counts.Goals as goal

pub returns-clause-submitted : goal.returns-clause-submitted
returns-clause-submitted c = λ s sender callee method arg is room key b. submitted_counts s sender callee method arg (tallied s is) room key b

pub returns-clause-timed : goal.returns-clause-timed
returns-clause-timed c = λ s time key b. refl

pub returns-clause-added : goal.returns-clause-added
returns-clause-added c = λ s v is is_new room key b. added_counts s v (tallied s is) is_new room key b
