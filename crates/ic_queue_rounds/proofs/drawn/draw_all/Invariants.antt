use Rattle.std.proofs.Common.{◌≡◌}
use Rattle.std.specs.List.{fold}
use Rattle.ic_queue_rounds.specs.Drawing.{draw, none_drawn}
use Rattle.ic_queue_rounds.proofs.drawn.draw_all.Given as goal

abbrev pub invariant-loop-key : goal.invariant-loop-key
invariant-loop-key l = l.drawn ≡ fold draw (none_drawn l.fn.queues) l.yielded
