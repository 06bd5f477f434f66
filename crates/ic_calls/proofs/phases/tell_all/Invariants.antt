use Rattle.std.proofs.Common.{◌≡◌, ◌++◌, map, take}
use Rattle.ic_calls.specs.Changes.{told}
use Rattle.ic_calls.proofs.phases.tell_all.Given as goal

abbrev pub invariant-loop-waiter : goal.invariant-loop-waiter
invariant-loop-waiter l = l.answers ≡ l.initial.answers ++ map told (take l.waiter-index l.waiters)
