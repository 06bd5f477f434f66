use Rattle.std.proofs.Common.{◌≡◌, ◌+◌, length}
use Rattle.ic_queues.specs.Shelved.{entries_from, trim}
use Rattle.ic_queues.proofs.shelf.trim.Given as goal

abbrev pub invariant-loop-places : goal.invariant-loop-places
invariant-loop-places l = record {
  entries : entries_from l.first l.places.items ≡ entries_from l.initial.first l.initial.places.items;
  places : trim l.places.items ≡ trim l.initial.places.items;
  numbers : l.first + length l.places.items ≡ l.initial.first + length l.initial.places.items;
}

abbrev pub decreases-loop-places : goal.decreases-loop-places
decreases-loop-places l = length l.places.items
