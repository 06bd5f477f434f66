use Rattle.std.proofs.Common.{◌≡◌, ℕ, ◌-◌, ◌≤◌, false, length, drop, List}
use Rattle.std.specs.Ordering.{nat_cmp, is_gt}
use Rattle.std.specs.Cmp.Lexicographic.{slice_cmp}
use Rattle.cd_sub.specs.TypeUnder.{type_under}
use Rattle.cd_sub.proofs.labels.type_of_method.Given as goal

-- each name that is not passed is found as it was
abbrev pub invariant-loop-at : goal.invariant-loop-at
invariant-loop-at l =
    record {
      inside : l.at ≤ length l.methods;
      same : (label : List ℕ) → is_gt (slice_cmp nat_cmp l.name label) ≡ false → type_under (slice_cmp nat_cmp) label (drop l.at l.methods) ≡ type_under (slice_cmp nat_cmp) label (drop l.from l.methods);
    }

abbrev pub decreases-loop-at : goal.decreases-loop-at
decreases-loop-at l = length l.methods - l.at
