use Rattle.std.proofs.Common.{ℕ, ◌<◌}
use Rattle.std.specs.Prelude.{slice_index_or}
use Rattle.ct_search.specs.declared.case.Case.{Case}
use Rattle.ct_search.specs.Visits.{AreOne}
use Rattle.ct_search.specs.Search.{seen}
use Rattle.ct_search.proofs.visiting.has_same.Given as goal

abbrev pub invariant-loop-place : goal.invariant-loop-place
invariant-loop-place g l =
    (j e : ℕ) (d : Case _) → j < l.place-index
    → ¬ AreOne (g.M.Machine.meaning l.machine) (seen g.M.Machine.state l.keeper l.case) (seen g.M.Machine.state l.keeper (slice_index_or l.met.cases.items (slice_index_or l.place-items j e) d))
