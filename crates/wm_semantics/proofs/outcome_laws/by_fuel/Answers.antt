use Rattle.std.proofs.Common.{suc, arith}
use Rattle.wm_semantics.specs.Fuel.{measure}
use Rattle.wm_semantics.proofs.ByFuel.{reached_by_fuel, invoked_by_fuel}
use Rattle.wm_semantics.proofs.outcome_laws.by_fuel.Goals as goal

pub returns-clause-runs : goal.returns-clause-runs
returns-clause-runs g c reply rises agrees m limit s o reaches = reached_by_fuel g.H.Host.answers reply rises agrees (suc (measure limit s)) reaches (omega arith)

pub returns-clause-targets : goal.returns-clause-targets
returns-clause-targets g c = invoked_by_fuel g.H.Host.answers
