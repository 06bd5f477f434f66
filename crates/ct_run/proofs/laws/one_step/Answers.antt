use Rattle.ct_run.proofs.One.{met_once, met_not_unmet}
use Rattle.ct_run.proofs.laws.one_step.Goals as goal

pub returns-clause-once : goal.returns-clause-once
returns-clause-once c = met_once c.one_meeting.ensures

pub returns-clause-not_unmet : goal.returns-clause-not_unmet
returns-clause-not_unmet c = met_not_unmet c.one_meeting.ensures
