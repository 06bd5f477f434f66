use Rattle.ct_run.proofs.One.{one_failure}
use Rattle.ct_run.proofs.laws.one_failure.Goals as goal

pub returns : goal.returns
returns c = one_failure c.one_meeting.ensures
