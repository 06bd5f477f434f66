use Rattle.ic_api.proofs.Executions.{quiet}
use Rattle.ic_api.proofs.laws.installations_are_quiet.Goals as goal

pub returns : goal.returns
returns c = quiet
