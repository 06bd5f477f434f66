use Rattle.std.proofs.Common.{◌≡◌, ◌+◌, [], List, ℕ, true, length}
use Rattle.std.specs.List.{list_all}
use Rattle.cd_types.specs.IsInside.{is_inside}
use Rattle.cd_part.specs.Meets.{Meets, part_count, unmet}
use Rattle.cd_part.proofs.meeting.met_from.Given as goal

-- whatever is met from what is left is met from the types
abbrev pub invariant-loop-ty : goal.invariant-loop-ty
invariant-loop-ty l = record {
  table : l.meeting.0 ≡ l.table;
  meets : (after : List ℕ) → Meets l.table l.todo l.meeting.1 after → Meets l.table l.types [] after;
  inside : list_all (is_inside (length l.table)) l.todo ≡ true;
}

-- the types that are to be met, and the parts of the entries that were not met
abbrev pub decreases-loop-ty : goal.decreases-loop-ty
decreases-loop-ty l = length l.todo + unmet part_count l.meeting.1 0 l.table
