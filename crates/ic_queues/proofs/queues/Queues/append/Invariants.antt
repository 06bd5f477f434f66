use Rattle.std.proofs.Common.{◌≡◌, ◌++◌}
use Rattle.ic_queues.specs.InLists.{queued_of, AreQueued}
use Rattle.ic_queues.proofs.queues.Queues.append.Given as goal

abbrev pub invariant-loop-message : goal.invariant-loop-message
invariant-loop-message l = record {
  queued : AreQueued l.lists;
  messages : (queued_of l.lists).messages ≡ l.fn.self.messages ++ l.yielded;
  canisters : (queued_of l.lists).canisters ≡ l.fn.self.canisters;
}
