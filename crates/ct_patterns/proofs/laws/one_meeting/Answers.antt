use Rattle.ct_patterns.proofs.Matches.{one}
use Rattle.ct_patterns.proofs.laws.one_meeting.Goals as goal

pub returns : goal.returns
returns c = one
