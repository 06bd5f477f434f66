use Rattle.std.proofs.Common.{◌≡◌, ◌++◌, drop}
use Rattle.ic_witness.specs.Needed.{paths_at}
use Rattle.ic_witness.proofs.pruning.witness.Given as goal

-- the paths lent and those left are all
abbrev pub invariant-loop-path : goal.invariant-loop-path
invariant-loop-path l = paths_at l.all.items ++ drop l.path-index l.paths ≡ l.paths
