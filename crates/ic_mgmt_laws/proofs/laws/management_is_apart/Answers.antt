use Rattle.ic_mgmt_laws.proofs.Apart.{same_counts, sends_last}
use Rattle.ic_mgmt_laws.proofs.laws.management_is_apart.Goals as goal

pub returns-clause-counts : goal.returns-clause-counts
returns-clause-counts c = λ enters limit now other s call time counts. same_counts enters limit now other s call time counts

pub returns-clause-last : goal.returns-clause-last
returns-clause-last c = λ enters limit now s call front. sends_last enters limit now s call front
