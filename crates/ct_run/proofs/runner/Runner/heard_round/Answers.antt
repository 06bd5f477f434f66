use Rattle.std.proofs.Common.{List, ℕ, ap, ◌∙◌}
use Rattle.ic_behaviour.specs.Steps.{along}
use Rattle.ic_behaviour.specs.Round.{turns}
use Rattle.ct_run.specs.Called.{rules_of}
use Rattle.ct_run.proofs.Hearings.{phases}
use Rattle.ct_run.proofs.runner.Runner.heard_round.Goals as goal

pub returns : goal.returns
returns g c =
    let rules = rules_of c.args.self.now.charge in
    let turned = c.in_ok-world.ensures ∙ ap (λ (ids : List (List ℕ)). along rules c.args.world (turns rules c.args.world ids)) c.deref.ensures.value in
    phases rules c.args.world c.in_ok-world.world c.in_ok-world-2.world c.in_ok-ids.ids.items c.message_count-count.result c.in_ok-ids.ensures turned c.message_count-count.ensures c.in_ok-world-2.ensures
