use Rattle.std.proofs.Common.{◌≡◌, ◌+◌, drop, option_map}
use Rattle.ic_queues.specs.Shelved.{index_at}
use Rattle.ic_queues.proofs.shelf.index_at.Given as goal

abbrev pub invariant-loop-index : goal.invariant-loop-index
invariant-loop-index l = index_at l.place l.places.items ≡ option_map (λ i. l.index + i) (index_at l.left (drop l.index l.places.items))
