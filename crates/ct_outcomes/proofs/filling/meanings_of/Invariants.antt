use Rattle.std.proofs.Common.{take}
use Rattle.ct_outcomes.specs.Standings.{AreReadAt}
use Rattle.ct_outcomes.proofs.filling.meanings_of.Given as goal

abbrev pub invariant-loop-index : goal.invariant-loop-index
invariant-loop-index l = AreReadAt l.names (take l.index l.slots) l.meanings.items
