use Rattle.std.proofs.Common.{ℕ, sym, ap₂, ◌∙◌}
use Rattle.ic_queue_rounds.specs.Rounds.{after_rounds}
use Rattle.ic_script_runner.proofs.Keeps.{after_rounds-is}
use Rattle.ic_script_runner.proofs.doing.run_rounds_by.Goals as goal

pub returns-in-Ok-clause-state : goal.returns-in-Ok-clause-state
returns-in-Ok-clause-state g c =
    c.in-Ok.ensures.state ∙ ap₂ (λ (limit price : ℕ). after_rounds limit price c.args.count c.args.world) c.charge.ensures.limit c.charge.ensures.price
    ∙ sym (after_rounds-is c.args.options.now c.args.count c.args.world)
