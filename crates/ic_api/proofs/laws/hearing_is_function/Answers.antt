use Rattle.ic_api.proofs.Hearings.{agrees, is_functional, rises}
use Rattle.ic_api.proofs.laws.hearing_is_function.Goals as goal

pub returns-clause-agrees : goal.returns-clause-agrees
returns-clause-agrees c = agrees

pub returns-clause-functional : goal.returns-clause-functional
returns-clause-functional c = is_functional

pub returns-clause-rises : goal.returns-clause-rises
returns-clause-rises c = rises c.host_is_function.ensures.rises
