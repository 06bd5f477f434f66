use Rattle.std.proofs.Common.{◌≡◌, ◌++◌, true}
use Rattle.ct_search.specs.Index.{AreUnderKeys}
use Rattle.ct_search.specs.Search.{all_seen, AreHeld, AreKeyed, HaveVisited}
use Rattle.ct_search.proofs.visiting.visit_all.Given as goal

abbrev pub invariant-loop-case : goal.invariant-loop-case
invariant-loop-case g l = record {
  visited :
      HaveVisited (g.M.Machine.meaning l.machine) l.most (all_seen g.M.Machine.state l.keeper l.fn.met.cases.items)
      (all_seen g.M.Machine.state l.keeper l.yielded) true (all_seen g.M.Machine.state l.keeper l.met.cases.items);
  indexed : AreUnderKeys l.met.index.places l.met.cases.items;
  held : AreHeld g.M.Machine.Holds l.keeper l.met.cases.items;
  whole : l.fn.found.items ≡ l.yielded ++ l.case-iterator.rest.items;
  rest : AreKeyed (g.M.Machine.meaning l.machine) (all_seen g.M.Machine.state l.keeper l.case-iterator.rest.items);
  rest_held : AreHeld g.M.Machine.Holds l.keeper l.case-iterator.rest.items;
}
