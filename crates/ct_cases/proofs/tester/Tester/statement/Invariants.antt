use Rattle.std.proofs.Common.{◌≡◌, ◌++◌}
use Rattle.ct_cases.specs.Cases.{Grows, AreHeld, AreAfter, all_reached}
use Rattle.ct_cases.proofs.tester.Tester.statement.Given as goal

abbrev pub invariant-loop-case : goal.invariant-loop-case
invariant-loop-case g l = record {
  grows : Grows l.fn.tables l.tables;
  held : AreHeld l.tables l.after.items;
  after : AreAfter l.self.setting l.statement (all_reached l.fn.tables l.yielded) (all_reached l.tables l.after.items);
  whole : l.fn.cases.items ≡ l.yielded ++ l.case-iterator.rest.items;
  rest : AreHeld l.fn.tables l.case-iterator.rest.items;
}
