use Rattle.std.proofs.Common.{drop}
use Rattle.ct_host.specs.Looking.{IsNoFile, IsParsed}
use Rattle.ct_host.proofs.Inputs.{Still}
use Rattle.ct_host.proofs.looking.source.Given as goal

abbrev pub invariant-loop-one : goal.invariant-loop-one
invariant-loop-one g l = Still (IsParsed (g.D.Disk.gives l.disk)) IsNoFile l.loaded l.items.items (drop l.one-index l.loaded)
