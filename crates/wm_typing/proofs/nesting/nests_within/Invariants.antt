use Rattle.std.proofs.Common.{◌≡◌, ◌≤◌, drop}
use Rattle.wm_typing.proofs.NestingTree.{within}
use Rattle.wm_typing.proofs.nesting.nests_within.Given as goal

abbrev pub invariant-loop-instr : goal.invariant-loop-instr
invariant-loop-instr l = (within l.most l.open (drop l.instr-index l.body) ≡ within l.most 0 l.body) × (l.open ≤ l.most)
