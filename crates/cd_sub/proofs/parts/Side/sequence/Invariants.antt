use Rattle.std.proofs.Common.{◌≡◌, drop}
use Rattle.cd_sub.specs.Parts.{sequence_parts}
use Rattle.cd_sub.proofs.parts.Side.sequence.Given as goal

-- what is found so far and what is left to find are all parts
abbrev pub invariant-loop-at : goal.invariant-loop-at
invariant-loop-at l =
    sequence_parts l.self.lower.now l.self.upper.now l.self.turned (drop l.at l.types) (drop l.at l.expected) l.found.items
    ≡ sequence_parts l.self.lower.now l.self.upper.now l.self.turned l.types l.expected l.initial.found.items
