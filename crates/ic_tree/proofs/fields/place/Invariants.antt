use Rattle.ic_tree.proofs.Order.{NoneAbove}
use Rattle.ic_tree.proofs.fields.place.Given as goal

abbrev pub invariant-loop-at : goal.invariant-loop-at
invariant-loop-at l = NoneAbove l.pair l.pairs l.at
