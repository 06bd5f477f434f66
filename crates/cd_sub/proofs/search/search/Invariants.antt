use Rattle.std.proofs.Common.{◌+◌, ◌-◌, ◌<◌, ◌≤◌, length, take}
use Rattle.std.specs.List.{AllByRecursion, Contains, count_by}
use Rattle.cd_sub.specs.Pairs.{PlaceSub}
use Rattle.cd_sub.specs.Marks.{IsRightBut, is_unknown}
use Rattle.cd_sub.proofs.SearchLemmas.{Shown}
use Rattle.cd_sub.proofs.search.search.Given as goal

-- the pairs up to here are shown, and what is met is needed for what was met first
abbrev pub invariant-loop-next : goal.invariant-loop-next
invariant-loop-next l =
    record {
      reached : l.next ≤ length l.met.items;
      inside : AllByRecursion (λ place. place < length l.marks) l.met.items;
      right : IsRightBut l.met.items l.first l.second l.marks;
      shown : AllByRecursion (Shown l.first l.second l.marks) (take l.next l.met.items);
      needed : AllByRecursion (PlaceSub l.first l.second) l.initial.met.items → AllByRecursion (PlaceSub l.first l.second) l.met.items;
      there : AllByRecursion (Contains l.met.items) l.initial.met.items;
    }

-- the pairs that are not met, and those that are not tried
abbrev pub decreases-loop-next : goal.decreases-loop-next
decreases-loop-next l = count_by is_unknown l.marks + (length l.met.items - l.next)
