use Rattle.std.proofs.lemmas.Result.{IfOk-weaker}
use Rattle.ic_mgmt_laws.specs.Managed.{managed_rules}
use Rattle.ic_mgmt.proofs.Handles.{managing}
use Rattle.ic_queue_rounds.proofs.Roundings.{round_is}
use Rattle.ic_queue_rounds.proofs.rounds.round_in_queues.Goals as goal

pub returns : goal.returns
returns g c =
    IfOk-weaker c.outside_turns.result _ _ (λ end done. round_is (managed_rules c.args.charge.limit c.args.charge.price) c.args.world c.in_ok-world.world end (c.in_ok-world.ensures managing) (done c.args.charge.price)) c.outside_turns.ensures
