use Rattle.std.proofs.Common.{◌≡◌}
use Rattle.ic_queues.specs.Shelved.{messages_of}
use Rattle.ic_queues.proofs.shelf.messages_of.Given as goal

abbrev pub invariant-loop-place : goal.invariant-loop-place
invariant-loop-place l = l.items.items ≡ messages_of l.yielded
