use Rattle.std.proofs.Common.{◌≡◌}
use Rattle.ic_queues.specs.Lines.{empty_lines}
use Rattle.ic_queues.proofs.queues.empty_lines.Given as goal

abbrev pub invariant-loop-key : goal.invariant-loop-key
invariant-loop-key l = l.lines.entries ≡ empty_lines l.yielded
