use Rattle.std.proofs.Common.{drop}
use Rattle.ct_host.proofs.Inputs.{StillAdds}
use Rattle.ct_host.proofs.looking.add_all.Given as goal

abbrev pub invariant-loop-name : goal.invariant-loop-name
invariant-loop-name g l = StillAdds (g.D.Disk.gives l.disk) l.from l.fn.sources l.names l.sources (drop l.name-index l.names)
