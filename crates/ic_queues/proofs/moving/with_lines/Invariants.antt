use Rattle.std.proofs.Common.{◌≡◌}
use Rattle.std.specs.List.{fold}
use Rattle.ic_queues.specs.Moving.{merge}
use Rattle.ic_queues.proofs.moving.with_lines.Given as goal

abbrev pub invariant-loop-line : goal.invariant-loop-line
invariant-loop-line l = l.outside ≡ fold merge l.fn.outside l.yielded
