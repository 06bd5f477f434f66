use Rattle.ic_queues.proofs.Moves.{Moved}
use Rattle.ic_queues.proofs.Starts.{Rises}
use Rattle.ic_queues.proofs.moving.moved.Given as goal

abbrev pub invariant-loop-key : goal.invariant-loop-key
invariant-loop-key l = Rises l.yielded → Moved l.fn.lists.messages.entries l.before.entries l.outside l.waiting.entries l.yielded
