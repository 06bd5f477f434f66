use Rattle.std.proofs.Common.{◌-◌, map}
use Rattle.ct_search.specs.Index.{AreUnderKeys}
use Rattle.ct_search.proofs.Going.{Going}
use Rattle.ct_search.proofs.exploring.explore.Given as goal

abbrev pub invariant-loop-next : goal.invariant-loop-next
invariant-loop-next g l =
    Going g.M.Machine.Holds g.M.Machine.state (g.M.Machine.meaning l.machine) (map (g.M.Machine.state l.fn.keeper) l.fn.starts.items) l.most l.fn.keeper l.keeper l.met.cases.items l.next
    × AreUnderKeys l.met.index.places l.met.cases.items

abbrev pub decreases-loop-next : goal.decreases-loop-next
decreases-loop-next g l = l.most - l.next
