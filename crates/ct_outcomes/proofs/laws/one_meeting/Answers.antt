use Rattle.ct_outcomes.proofs.Once.{one_meeting}
use Rattle.ct_outcomes.proofs.laws.one_meeting.Goals as goal

pub returns : goal.returns
returns c = one_meeting (λ expected bytes values. c.one_answer.ensures.values expected bytes values)
