use Rattle.std.proofs.Common.{ap}
use Rattle.std.specs.Prelude.{Ok}
use Rattle.ic_mgmt.proofs.Rows.{stops_at_once}
use Rattle.ic_mgmt.proofs.phases.stop.Goals as goal

pub returns-in-Stopped-clause-does : goal.returns-in-Stopped-clause-does
returns-in-Stopped-clause-does c = λ now s stands. ap Ok (
    stops_at_once c.args.call.now c.args.id c.args.canister.now c.args.canister.now _ c.in-Stopped.is c.in_ok-done.ensures now s stands.found
    )
