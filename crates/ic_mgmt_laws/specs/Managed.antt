-- Runs whose code has the System API and whose calls to the management canister are delivered (IC Interface Specification, "Abstract behavior").
use Rattle.std.specs.Prelude.{ℕ}
use Rattle.ic_behaviour.specs.Installing.{enters_after}
use Rattle.ic_api.specs.System.{system_api}
use Rattle.ic_behaviour.specs.Steps.{Rules}
use Rattle.ic_run_laws.specs.System.{system_rules}
use Rattle.ic_mgmt_laws.specs.Manage.{manage}

-- the most instructions of an execution, and the price of one
abbrev pub managed_rules : (limit price : ℕ) → Rules
managed_rules limit price = system_rules (manage (enters_after system_api)) limit price
