use Rattle.std.proofs.Common.{◌≡◌, false, take}
use Rattle.std.specs.List.{list_any}
use Rattle.ic_behaviour.specs.Steps.{same_way}
use Rattle.ic_queues.specs.Shelved.{messages_of}
use Rattle.ic_queues.proofs.shelf.has_earlier.Given as goal

abbrev pub invariant-loop-other : goal.invariant-loop-other
invariant-loop-other l = list_any (same_way l.message) (messages_of (take l.other l.places.items)) ≡ false
