use Rattle.std.proofs.Common.{◌<◌, length}
use Rattle.std.specs.List.{AllByRecursion}
use Rattle.cd_sub.specs.Marks.{IsRightBut}
use Rattle.cd_sub.proofs.search.settle.Given as goal

-- every mark is right, but for those still to be settled
abbrev pub invariant-loop-place : goal.invariant-loop-place
invariant-loop-place l =
    record {
      inside : AllByRecursion (λ place. place < length l.marks) l.met.items;
      right : IsRightBut l.met.items l.first l.second l.marks;
    }

abbrev pub decreases-loop-place : goal.decreases-loop-place
decreases-loop-place l = length l.met.items
