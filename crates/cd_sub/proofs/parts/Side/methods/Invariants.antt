use Rattle.std.proofs.Common.{◌≡◌, ◌≤◌, length, drop}
use Rattle.std.specs.Ordering.{nat_cmp}
use Rattle.std.specs.Cmp.Lexicographic.{slice_cmp}
use Rattle.cd_sub.specs.Parts.{method_part, labelled_parts}
use Rattle.cd_sub.proofs.parts.Side.methods.Given as goal

-- what is found so far and what is left to find are all parts
abbrev pub invariant-loop-method : goal.invariant-loop-method
invariant-loop-method l =
    let part = method_part l.self.lower.now l.self.upper.now l.self.turned in
    record {
      inside : l.at ≤ length l.methods;
      all : labelled_parts (slice_cmp nat_cmp) part (drop l.at l.methods) (drop l.method-index l.expected) l.found.items ≡ labelled_parts (slice_cmp nat_cmp) part l.methods l.expected l.initial.found.items;
    }
