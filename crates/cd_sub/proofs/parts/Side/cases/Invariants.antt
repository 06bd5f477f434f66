use Rattle.std.proofs.Common.{◌≡◌, ◌≤◌, length, drop}
use Rattle.std.specs.Ordering.{nat_cmp}
use Rattle.cd_sub.specs.Parts.{case_part, labelled_parts}
use Rattle.cd_sub.proofs.parts.Side.cases.Given as goal

-- what is found so far and what is left to find are all parts
abbrev pub invariant-loop-id : goal.invariant-loop-id
invariant-loop-id l =
    let part = case_part l.self.lower.now l.self.upper.now l.self.turned in
    record {
      inside : l.at ≤ length l.expected;
      all : labelled_parts nat_cmp part (drop l.at l.expected) (drop l.id-index l.cases) l.found.items ≡ labelled_parts nat_cmp part l.expected l.cases l.initial.found.items;
    }
