use Rattle.std.proofs.Common.{◌≡◌, []}
use Rattle.std.specs.List.{fold}
use Rattle.ic_queues.specs.Moving.{put_in}
use Rattle.ic_queues.proofs.moving.merged.Given as goal

abbrev pub invariant-loop-number : goal.invariant-loop-number
invariant-loop-number l = (l.all, l.rest) ≡ fold put_in ([], l.fn.line) l.yielded
