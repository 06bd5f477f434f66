use Rattle.std.proofs.Common.{◌≡◌, not}
use Rattle.std.specs.List.{filter}
use Rattle.ic_queues.specs.Moving.{is_to}
use Rattle.ic_queues.proofs.moving.taken_out.Given as goal

abbrev pub invariant-loop-number : goal.invariant-loop-number
invariant-loop-number l = (l.line ≡ filter (is_to l.fn.messages.entries l.fn.key) l.yielded) × (l.others ≡ filter (λ n. not (is_to l.fn.messages.entries l.fn.key n)) l.yielded)
