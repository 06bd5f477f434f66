use Rattle.std.proofs.Common.{◌≡◌, ℕ, ◌-◌, ◌≤◌, false, length, drop}
use Rattle.std.specs.Ordering.{nat_cmp, is_gt}
use Rattle.cd_sub.specs.TypeUnder.{type_under}
use Rattle.cd_sub.proofs.labels.type_of_field.Given as goal

-- each id that is not passed is found as it was
abbrev pub invariant-loop-at : goal.invariant-loop-at
invariant-loop-at l =
    record {
      inside : l.at ≤ length l.fields;
      same : (label : ℕ) → is_gt (nat_cmp l.id label) ≡ false → type_under nat_cmp label (drop l.at l.fields) ≡ type_under nat_cmp label (drop l.from l.fields);
    }

abbrev pub decreases-loop-at : goal.decreases-loop-at
decreases-loop-at l = length l.fields - l.at
