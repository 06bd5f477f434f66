use Rattle.ic_api.proofs.Executions.{entered}
use Rattle.ic_api.proofs.laws.entries_are_lawful.Goals as goal

pub returns : goal.returns
returns c = entered
