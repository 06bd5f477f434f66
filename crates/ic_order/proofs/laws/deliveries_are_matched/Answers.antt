use Rattle.ic_mgmt_laws.specs.Managed.{managed_rules}
use Rattle.ic_order.proofs.Matched.{matched}
use Rattle.ic_order.proofs.Managed.{respects}
use Rattle.ic_order.proofs.laws.deliveries_are_matched.Goals as goal

pub returns-clause-matched : goal.returns-clause-matched
returns-clause-matched c = λ rules s t place respected same may. matched rules respected s t place same may

pub returns-clause-managed : goal.returns-clause-managed
returns-clause-managed c = λ limit price s t place same may. matched (managed_rules limit price) (respects _) s t place same may
