use Rattle.std.proofs.Common.{take}
use Rattle.ct_search.proofs.Keeping.{FoundSoFar}
use Rattle.ct_search.proofs.moving.cases_after.Given as goal

abbrev pub invariant-loop-place : goal.invariant-loop-place
invariant-loop-place g l =
    FoundSoFar g.M.Machine.Holds g.M.Machine.state (g.M.Machine.meaning l.machine) l.fn.keeper l.keeper l.case (take l.place-index l.place-items) l.found.items
