use Rattle.std.proofs.Common.{arith}
use Rattle.ct_run.specs.Called.{rules_of}
use Rattle.ct_run.proofs.Hearings.{no_step}
use Rattle.ct_run.proofs.runner.Runner.delivered_at.Goals as goal

pub returns-else-place-message_count : goal.returns-else-place-message_count
returns-else-place-message_count g c =
    no_step (rules_of c.args.self.now.charge) c.args.world c.args.place (omega (arith, c.message_count.ensures, c.if-place-message_count.false))
