use Rattle.std.proofs.Common.{◌≡◌, drop}
use Rattle.ic_witness.specs.Needed.{is_among, labels_at}
use Rattle.ic_witness.proofs.needs.is_among.Given as goal

-- the names left tell what all of them tell
abbrev pub invariant-loop-name : goal.invariant-loop-name
invariant-loop-name l = is_among (labels_at (drop l.name-index l.needed)) l.label ≡ is_among (labels_at l.needed) l.label
