use Rattle.std.proofs.Common.{drop}
use Rattle.ct_host.specs.Looking.{IsLoaded, IsUnreadable}
use Rattle.ct_host.proofs.Inputs.{Still}
use Rattle.ct_host.proofs.looking.load.Given as goal

abbrev pub invariant-loop-name : goal.invariant-loop-name
invariant-loop-name g l = Still (IsLoaded (g.D.Disk.gives l.disk)) (IsUnreadable (g.D.Disk.gives l.disk)) l.names l.items.items (drop l.name-index l.names)
