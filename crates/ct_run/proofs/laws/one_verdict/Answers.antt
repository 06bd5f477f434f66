use Rattle.ct_run.proofs.One.{one_verdict}
use Rattle.ct_run.proofs.laws.one_verdict.Goals as goal

pub returns : goal.returns
returns c = one_verdict c.one_meeting.ensures
