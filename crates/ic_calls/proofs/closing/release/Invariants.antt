use Rattle.std.proofs.Common.{◌≡◌, ◌++◌, map, take}
use Rattle.ic_behaviour.specs.Closing.{released}
use Rattle.ic_calls.proofs.closing.release.Given as goal

abbrev pub invariant-loop-waiter : goal.invariant-loop-waiter
invariant-loop-waiter l = l.answers ≡ l.initial.answers ++ map released (take l.waiter-index l.waiters)
