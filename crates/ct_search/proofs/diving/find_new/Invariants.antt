use Rattle.std.proofs.Common.{length}
use Rattle.ct_search.specs.Index.{AreUnderKeys}
use Rattle.ct_search.specs.Search.{all_seen, AreMoves, GoesDown}
use Rattle.ct_search.proofs.diving.find_new.Given as goal

abbrev pub invariant-loop-case : goal.invariant-loop-case
invariant-loop-case g l =
    GoesDown g.M.Machine.Holds g.M.Machine.state (g.M.Machine.meaning l.machine) l.most l.fn.keeper l.keeper l.fn.met.cases.items l.met.cases.items
    × AreMoves (g.M.Machine.meaning l.machine) (all_seen g.M.Machine.state l.keeper l.met.cases.items) l.moves.items
    × AreUnderKeys l.met.index.places l.met.cases.items

abbrev pub decreases-loop-case : goal.decreases-loop-case
decreases-loop-case g l = length l.moves.items
