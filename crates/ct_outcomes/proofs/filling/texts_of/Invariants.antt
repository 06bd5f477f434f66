use Rattle.std.proofs.Common.{◌≡◌, map, take}
use Rattle.ct_outcomes.specs.Answers.{written_at}
use Rattle.ct_outcomes.proofs.filling.texts_of.Given as goal

abbrev pub invariant-loop-slot : goal.invariant-loop-slot
invariant-loop-slot l = l.texts.items ≡ map (written_at l.names) (take l.slot-index l.slots)
