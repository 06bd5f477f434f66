-- The rules of runs with the management canister keep what the laws of runs ask.
use Rattle.std.proofs.Common.{ℕ}
use Rattle.ic_behaviour.specs.Installing.{enters_after}
use Rattle.ic_api.specs.System.{system_api}
use Rattle.ic_run_laws.specs.RulesKeep.{RulesKeep}
use Rattle.ic_run_laws.proofs.Systems.{rules_keep}
use Rattle.ic_mgmt_laws.specs.Manage.{manage}
use Rattle.ic_mgmt_laws.specs.Managed.{managed_rules}
use Rattle.ic_mgmt_laws.proofs.Manages.{outside_keeps}

pub managed_keep : (limit price : ℕ) → RulesKeep (managed_rules limit price)
managed_keep limit price = rules_keep (manage (enters_after system_api)) limit price (outside_keeps (enters_after system_api))
