use Rattle.ct_asked.proofs.Once.{creation_once}
use Rattle.ct_asked.proofs.laws.one_creation.Goals as goal

pub returns : goal.returns
returns c = creation_once
