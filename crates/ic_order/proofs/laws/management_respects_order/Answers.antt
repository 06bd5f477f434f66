use Rattle.ic_order.proofs.Managed.{respects}
use Rattle.ic_order.proofs.laws.management_respects_order.Goals as goal

pub returns : goal.returns
returns c = respects
