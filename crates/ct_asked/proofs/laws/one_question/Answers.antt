use Rattle.ct_asked.proofs.Once.{move_once}
use Rattle.ct_asked.proofs.laws.one_question.Goals as goal

pub returns : goal.returns
returns c = move_once
