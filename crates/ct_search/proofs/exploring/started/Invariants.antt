use Rattle.std.proofs.Common.{◌≡◌, ◌++◌, map}
use Rattle.std.specs.List.{AllByRecursion}
use Rattle.ct_search.specs.Search.{all_seen, AreHeld, AreStarts}
use Rattle.ct_search.proofs.exploring.started.Given as goal

abbrev pub invariant-loop-kept : goal.invariant-loop-kept
invariant-loop-kept g l = record {
  held : AreHeld g.M.Machine.Holds l.keeper l.cases.items;
  starts : AreStarts (g.M.Machine.meaning l.machine) 0 (map (g.M.Machine.state l.keeper) l.yielded) (all_seen g.M.Machine.state l.keeper l.cases.items);
  whole : l.fn.starts.items ≡ l.yielded ++ l.kept-iterator.rest.items;
  rest : AllByRecursion (g.M.Machine.Holds l.keeper) l.kept-iterator.rest.items;
}
