use Rattle.std.proofs.Common.{drop}
use Rattle.ct_outcomes.specs.declared.came.Came.{Came}
use Rattle.ct_outcomes.specs.Answers.{IsAnswer}
use Rattle.ct_outcomes.specs.Types.{types_at}
use Rattle.ct_outcomes.proofs.Found.{LeftToMeet}
use Rattle.ct_outcomes.proofs.meeting.first_met.Given as goal

abbrev pub invariant-loop-outcome : goal.invariant-loop-outcome
invariant-loop-outcome l = (came : Came) → IsAnswer (types_at l.at) came l.answer → LeftToMeet (types_at l.at) l.names (drop l.outcome-index l.outcomes) l.outcomes came
