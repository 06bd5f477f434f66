use Rattle.std.proofs.Common.{◌≡◌, drop}
use Rattle.std.specs.List.{list_any}
use Rattle.ic_witness.specs.Needed.{paths_at}
use Rattle.ic_witness.specs.Prune.{is_nil}
use Rattle.ic_witness.proofs.needs.has_empty.Given as goal

-- the paths left tell what all of them tell
abbrev pub invariant-loop-path : goal.invariant-loop-path
invariant-loop-path l = list_any is_nil (paths_at (drop l.path-index l.paths)) ≡ list_any is_nil (paths_at l.paths)
