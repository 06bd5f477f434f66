use Rattle.std.proofs.Common.{◌≡◌, ◌≤◌, length, drop}
use Rattle.std.specs.Ordering.{nat_cmp}
use Rattle.cd_sub.specs.Parts.{field_part, labelled_parts}
use Rattle.cd_sub.proofs.parts.Side.fields.Given as goal

-- what is found so far and what is left to find are all parts
abbrev pub invariant-loop-id : goal.invariant-loop-id
invariant-loop-id l =
    let part = field_part l.self.lower.now l.self.upper.now l.self.turned in
    record {
      inside : l.at ≤ length l.fields;
      all : labelled_parts nat_cmp part (drop l.at l.fields) (drop l.id-index l.expected) l.found.items ≡ labelled_parts nat_cmp part l.fields l.expected l.initial.found.items;
    }
