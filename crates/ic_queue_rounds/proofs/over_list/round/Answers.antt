use Rattle.ic_mgmt_laws.specs.Managed.{managed_rules}
use Rattle.ic_mgmt.proofs.Handles.{managing}
use Rattle.ic_queue_rounds.proofs.Roundings.{round_is, round_handled}
use Rattle.ic_queue_rounds.proofs.over_list.round.Goals as goal

pub returns-clause-state : goal.returns-clause-state
returns-clause-state g c =
    round_is (managed_rules c.args.limit c.args.price) c.args.world c.in_ok-world.world c.in_ok-world-2.world (c.in_ok-world.ensures.state managing) (c.in_ok-world-2.ensures.state c.args.price)

pub returns-clause-handled : goal.returns-clause-handled
returns-clause-handled g c =
    round_handled (managed_rules c.args.limit c.args.price) c.args.world c.in_ok-world.world c.in_ok-world.first c.in_ok-world-2.second
    (c.in_ok-world.ensures.state managing) (c.in_ok-world.ensures.handled managing) (c.in_ok-world-2.ensures.handled c.args.price)
