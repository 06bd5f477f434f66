use Rattle.std.proofs.Common.{◌≡◌, false, take}
use Rattle.std.specs.List.{list_any}
use Rattle.ic_queues.specs.Walking.{is_of_way}
use Rattle.ic_queues.proofs.walk.is_blocked.Given as goal

abbrev pub invariant-loop-other : goal.invariant-loop-other
invariant-loop-other l = list_any (is_of_way l.messages.entries l.number) (take l.other l.stay) ≡ false
