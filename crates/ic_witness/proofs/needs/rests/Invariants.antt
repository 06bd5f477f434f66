use Rattle.std.proofs.Common.{◌≡◌, ◌++◌, drop}
use Rattle.ic_witness.specs.Needed.{paths_at}
use Rattle.ic_witness.specs.Prune.{rests}
use Rattle.ic_witness.proofs.needs.rests.Given as goal

-- what was found and what is left to find are all
abbrev pub invariant-loop-path : goal.invariant-loop-path
invariant-loop-path l = paths_at l.found.items ++ rests l.label (paths_at (drop l.path-index l.paths)) ≡ rests l.label (paths_at l.paths)
