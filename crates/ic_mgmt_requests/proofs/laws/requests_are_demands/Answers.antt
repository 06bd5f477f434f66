use Rattle.ic_mgmt_requests.proofs.Read.{creation_demanded, installation_demanded}
use Rattle.ic_mgmt_requests.proofs.laws.requests_are_demands.Goals as goal

pub returns-clause-creation : goal.returns-clause-creation
returns-clause-creation c = creation_demanded c.decided.ensures c.one_answer.ensures.values

pub returns-clause-installation : goal.returns-clause-installation
returns-clause-installation c = installation_demanded c.decided.ensures c.one_answer.ensures.values
