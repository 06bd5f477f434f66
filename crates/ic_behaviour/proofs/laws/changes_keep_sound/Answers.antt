use Rattle.ic_behaviour.specs.Submitted.{empty, submitted, timed, added}
use Rattle.ic_behaviour.proofs.Ties.{tallied, sound}
use Rattle.ic_behaviour.proofs.Changes.{empty_tallied, submitted_tallied, timed_tallied, added_tallied}
use Rattle.ic_behaviour.proofs.laws.changes_keep_sound.Goals as goal

pub returns-clause-empty : goal.returns-clause-empty
returns-clause-empty c = sound empty empty_tallied

pub returns-clause-submitted : goal.returns-clause-submitted
returns-clause-submitted c = λ s sender callee method arg is room. sound (submitted s sender callee method arg) (submitted_tallied s sender callee method arg (tallied s is) room)

pub returns-clause-timed : goal.returns-clause-timed
returns-clause-timed c = λ s time is later small. sound (timed s time) (timed_tallied s time (tallied s is) later small)

pub returns-clause-added : goal.returns-clause-added
returns-clause-added c = λ s v is is_new room. sound (added s v) (added_tallied s v (tallied s is) is_new room)
