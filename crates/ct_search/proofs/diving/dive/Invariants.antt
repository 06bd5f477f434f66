use Rattle.std.proofs.Common.{map}
use Rattle.ct_search.specs.Index.{AreUnderKeys}
use Rattle.ct_search.proofs.Downward.{Dived}
use Rattle.ct_search.proofs.diving.dive.Given as goal

abbrev pub invariant-loop-case : goal.invariant-loop-case
invariant-loop-case g l =
    Dived g.M.Machine.Holds g.M.Machine.state (g.M.Machine.meaning l.machine) (map (g.M.Machine.state l.fn.keeper) l.fn.starts.items) l.most l.fn.keeper l.keeper l.met.cases.items l.case-iterator.rest.items
    × AreUnderKeys l.met.index.places l.met.cases.items
