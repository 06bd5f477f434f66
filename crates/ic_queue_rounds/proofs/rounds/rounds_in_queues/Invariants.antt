use Rattle.ic_mgmt_laws.specs.Managed.{managed_rules}
use Rattle.ic_queue_rounds.proofs.Roundings.{Rounding}
use Rattle.ic_queue_rounds.proofs.rounds.rounds_in_queues.Given as goal

abbrev pub invariant-loop-made : goal.invariant-loop-made
invariant-loop-made g l = Rounding (managed_rules l.charge.limit l.charge.price) l.count l.made l.fn.world l.world
