use Rattle.std.proofs.Common.{◌≡◌, ◌++◌, suc, take, length}
use Rattle.ic_leb.specs.Spelling.{seven_bits_each}
use Rattle.ic_leb.proofs.writing.push_each.Given as goal

abbrev pub invariant-loop-left : goal.invariant-loop-left
invariant-loop-left l = record {
  rest : l.out.items ++ seven_bits_each l.end l.negative (suc l.left) l.left ≡ l.fn.out.items ++ seven_bits_each l.end l.negative (suc l.n) l.n;
  kept : take (length l.fn.out.items) l.out.items ≡ l.fn.out.items;
}

abbrev pub decreases-loop-left : goal.decreases-loop-left
decreases-loop-left l = l.left
